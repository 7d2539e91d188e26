use Rattle.std.proofs.Common.{inr, arith}
use Rattle.search.specs.Graph.{Refused}
use Rattle.search.proofs.Rolled.{unseen}
use Rattle.search.proofs.Explores.{explored_scan, explored_gate, needed, cut_off}
use Rattle.search.proofs.graph.Graph.explore.Goals as goal

pub loop-ends-preserved-then-done-seen : goal.loop-ends-preserved-then-done-seen
loop-ends-preserved-then-done-seen c =
    let s = c.scan.ensures in
    explored_scan _ _ _ _ _ _ _ _ c.loop-ends.invariant (omega arith) s.more s.forth s.back

-- no arc leaves the seen places
pub returns-in_err-start : goal.returns-in_err-start
returns-in_err-start c =
    let none : Refused c.args.self.now.arcs.now c.args.ends.from c.args.ends.to =
    cut_off _ _ _ _ c.args.self.now.proper c.told-flow c.requires.sound _ _ _ c.loop-ends.invariant (omega arith) (unseen _ c.loop-ends-test.ensures) c.in_err-start.ensures in
    rw c.from_residual.ensures none

-- the one that does is on every route
pub returns-then-arc-lt-BOTH : goal.returns-then-arc-lt-BOTH
returns-then-arc-lt-BOTH c =
    let must =
    needed _ _ _ _ c.args.self.now.proper c.told-flow c.requires.sound _ _ _ c.loop-ends.invariant (omega arith) (unseen _ c.loop-ends-test.ensures) _ c.in_ok-start.ensures.2 in
    inr (c.in_ok-start.c, must, omega arith)

pub loop-ends-preserved : goal.loop-ends-preserved
loop-ends-preserved c =
    let e = c.in_ok-start.ensures in
    explored_gate _ _ _ _ c.args.self.now.proper c.told-flow c.requires.sound _ _ _ c.loop-ends.invariant (omega arith) (unseen _ c.loop-ends-test.ensures) _ c.in_ok-start.c _ e.2 (omega arith) c.see.ensures e.0 e.1
