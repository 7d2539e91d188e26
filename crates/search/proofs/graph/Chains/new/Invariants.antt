use Rattle.std.proofs.Common.{◌≡◌, List, ◌++◌, length}
use Rattle.search.specs.declared.Arc.{Arc}
use Rattle.search.specs.Links.{Linked, end_by}
use Rattle.search.proofs.graph.Chains.new.Given as goal

-- the arcs that are not chained yet come before the others
abbrev pub invariant-loop-c : goal.invariant-loop-c
invariant-loop-c l =
    let before = l.c-iterator.iter.iter.rest.now in
    (l.c-iterator.iter.count ≡ 0)
    × ((after : List Arc) × (before ++ after ≡ l.arcs))
    × Linked l.arcs (end_by l.by) (length before) l.first l.next
