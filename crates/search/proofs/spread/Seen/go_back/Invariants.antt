use Rattle.std.proofs.Common.{◌<◌, get_or}
use Rattle.search.specs.declared.graph.By.TheVariants.{End}
use Rattle.search.specs.Remaining.{arcs_left}
use Rattle.search.specs.Trees.{Never}
use Rattle.search.proofs.Spreads.{SpreadTo}
use Rattle.search.proofs.spread.Seen.go_back.Given as goal

abbrev pub invariant-loop-c : goal.invariant-loop-c
invariant-loop-c l =
    let g = l.graph.arcs.now in
    SpreadTo g l.flow Never End (λ x. x.from) (λ c. 0 < get_or l.flow c 0) l.initial.self l.self l.place (arcs_left l.c-iterator)
