use Rattle.std.proofs.Common.{◌+◌, ◌-◌}
use Rattle.search.proofs.Explores.{Explored}
use Rattle.search.proofs.graph.Graph.explore.Given as goal

abbrev pub invariant-loop-ends : goal.invariant-loop-ends
invariant-loop-ends l = Explored l.self.arcs.now l.flow l.ends.from l.ends.to l.seen l.done l.held

abbrev pub decreases-loop-ends : goal.decreases-loop-ends
decreases-loop-ends l = 256 - (l.seen.count + l.done)
