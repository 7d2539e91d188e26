use Rattle.std.proofs.Common.{true, false, [], ◌∷◌}
use Rattle.scale.proofs.Costs.{cost_none}
use Rattle.tables.specs.Standing.{route_of}
use Rattle.plan.proofs.Circuits.{comes_low}
use Rattle.plan.proofs.Sharing.{cost_next}
use Rattle.plan.proofs.question.Question.shared_cost.Goals as goal

pub loop-c-init : goal.loop-c-init
loop-c-init g c =
    rw (c.into_iter-c-iterator.ensures.into_iter_gives, c.enumerate-c-items.ensures.source, c.enumerate-c-items.ensures.count, c.zero-cost.ensures)
    (c.of.ensures.all, cost_none _ g.met.S.Scale.lawful _ (g.R.Register.proper c.args.self.now.register.now) (route_of c.args.first.now ∷ route_of c.args.second.now ∷ []))

pub bounds-in_first-c : goal.bounds-in_first-c
bounds-in_first-c g c =
    let steps = c.in-Some.ensures.steps in
    comes_low _ _ _ _ _ _ c.loop-c.invariant.0 steps.0 steps.1 (g.R.Register.proper c.args.self.now.register.now)

pub bounds-in_second-c : goal.bounds-in_second-c
bounds-in_second-c g c =
    let steps = c.in-Some.ensures.steps in
    comes_low _ _ _ _ _ _ c.loop-c.invariant.0 steps.0 steps.1 (g.R.Register.proper c.args.self.now.register.now)

pub loop-c-preserved-then-shared : goal.loop-c-preserved-then-shared
loop-c-preserved-then-shared g c =
    let steps = c.in-Some.ensures.steps in
    rw (c.join-cost.ensures, c.weight.ensures)
    (cost_next _ g.met.S.Scale.lawful _ (g.R.Register.proper c.args.self.now.register.now) _ _ _ _ c.marks-in_first.ensures c.marks-in_second.ensures _ _ _ _ _ c.in-Some.circuit c.loop-c.cost true c.loop-c.invariant.0 steps.0 steps.1 steps.2 c.if-shared.true c.loop-c.invariant.1)

pub loop-c-preserved : goal.loop-c-preserved
loop-c-preserved g c =
    let steps = c.in-Some.ensures.steps in
    cost_next _ g.met.S.Scale.lawful _ (g.R.Register.proper c.args.self.now.register.now) _ _ _ _ c.marks-in_first.ensures c.marks-in_second.ensures _ _ _ _ _ c.in-Some.circuit c.loop-c.cost false c.loop-c.invariant.0 steps.0 steps.1 steps.2 c.if-shared.false c.loop-c.invariant.1
