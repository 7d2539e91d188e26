use Rattle.std.proofs.Common.{get_or}
use Rattle.search.proofs.Sends.{Sent}
use Rattle.search.proofs.graph.Graph.send.Given as goal

abbrev pub invariant-loop-place : goal.invariant-loop-place
invariant-loop-place l = Sent l.self.arcs.now l.initial.flow l.flow l.ends.from l.ends.to l.seen.rank l.seen.via l.place

abbrev pub decreases-loop-place : goal.decreases-loop-place
decreases-loop-place l = get_or l.seen.rank l.place 0
