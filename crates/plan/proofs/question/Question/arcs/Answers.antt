use Rattle.std.proofs.Common.{ℕ, ◌<◌, ◌≤◌, length, arith, length-set}
use Rattle.plan.proofs.Circuits.{comes_low, comes_rest, none_comes, arc_written, arcs_proper, arcs_lanes}
use Rattle.plan.proofs.question.Question.arcs.Goals as goal

pub loop-c-preserved : goal.loop-c-preserved
loop-c-preserved g c =
    let x = c.args.self.now.register.now in
    let n = g.R.Register.network x in
    let steps = c.in-Some.ensures.steps in
    let inv = c.loop-c.invariant in
    let i = c.in-Some.c in
    rw (steps.2, ← steps.1) (
      comes_rest n _ _ _ i _ inv.0 steps.0 steps.1,
      omega (arith, length-set c.loop-c.arcs i c.arc_of.result),
      arc_written _ _ _ _ c.loop-c.arcs i c.arc_of.result (omega (arith, comes_low n _ _ _ i _ inv.0 steps.0 steps.1 (g.R.Register.proper x))) (rw steps.1 inv.2) c.arc_of.ensures,
    )

pub returns : goal.returns
returns g c =
    let x = c.args.self.now.register.now in
    let n = g.R.Register.network x in
    let proper = g.R.Register.proper x in
    let inv = c.loop-c.invariant in
    let all : length n.circuits ≤ c.loop-c.c-iterator.count = none_comes n _ _ inv.0 c.in-None.ensures.steps.0.0 in
    let long : length n.circuits ≤ length c.loop-c.arcs = omega (arith, proper.few_circuits) in
    let each = λ (k : ℕ) (h : k < length n.circuits). inv.2 k (omega arith) in
    record { proper = arcs_proper n _ _ _ c.loop-c.arcs long each proper; lanes = arcs_lanes n _ _ _ c.loop-c.arcs long each }
