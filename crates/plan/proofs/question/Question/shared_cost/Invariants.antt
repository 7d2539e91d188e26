use Rattle.std.proofs.Common.{◌≡◌, [], ◌∷◌, drop}
use Rattle.scale.proofs.Costs.{SoFar}
use Rattle.tables.specs.Standing.{route_of}
use Rattle.plan.proofs.question.Question.shared_cost.Given as goal

abbrev pub invariant-loop-c : goal.invariant-loop-c
invariant-loop-c g l =
    let n = g.R.Register.network l.self.register.now in
    let i = l.c-iterator.count in
    (drop l.c-iterator.iter.left.start (g.R.Register.network l.c-iterator.iter.register.now).circuits ≡ drop i n.circuits)
    × SoFar g.S.Scale.measure g.met.S.Scale.lawful n (route_of l.first ∷ route_of l.second ∷ []) i l.cost
