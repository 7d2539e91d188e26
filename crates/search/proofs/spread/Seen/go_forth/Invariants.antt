use Rattle.search.specs.declared.graph.By.TheVariants.{Start}
use Rattle.search.specs.Remaining.{arcs_left}
use Rattle.search.specs.Rolls.{Unused}
use Rattle.search.proofs.Spreads.{SpreadTo}
use Rattle.search.proofs.spread.Seen.go_forth.Given as goal

abbrev pub invariant-loop-c : goal.invariant-loop-c
invariant-loop-c l =
    let g = l.graph.arcs.now in
    SpreadTo g l.flow (Unused g l.flow) Start (λ x. x.to) (Unused g l.flow) l.initial.self l.self l.place (arcs_left l.c-iterator)
