use Rattle.std.proofs.Common.{◌-◌}
use Rattle.search.specs.Trees.{Never}
use Rattle.search.proofs.Explores.{Begun}
use Rattle.search.proofs.graph.Graph.gather.Given as goal

abbrev pub invariant-loop-ends : goal.invariant-loop-ends
invariant-loop-ends l = Begun l.self.arcs.now l.flow Never l.ends.to l.seen l.done

abbrev pub decreases-loop-ends : goal.decreases-loop-ends
decreases-loop-ends l = 128 - l.done
