use Rattle.std.proofs.Common.{◌≡◌, ◌≤◌, length, get_or, take, drop}
use Rattle.search.proofs.Follows.{Part}
use Rattle.search.proofs.graph.Graph.follow.Given as goal

abbrev pub invariant-loop-place : goal.invariant-loop-place
invariant-loop-place l =
    (Part l.self.arcs.now l.initial.flow l.flow l.ends.from l.ends.to l.seen.rank l.seen.via l.place (take l.n l.route))
    × (l.n ≤ length l.route)
    × (drop l.n l.route ≡ drop l.n l.initial.route)

abbrev pub decreases-loop-place : goal.decreases-loop-place
decreases-loop-place l = get_or l.seen.rank l.place 0
