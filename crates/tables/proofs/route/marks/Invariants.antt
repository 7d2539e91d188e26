use Rattle.std.proofs.Common.{take}
use Rattle.tables.proofs.Marking.{Marked}
use Rattle.tables.proofs.route.marks.Given as goal

abbrev pub invariant-loop-circuit : goal.invariant-loop-circuit
invariant-loop-circuit l = Marked l.marks (take l.circuit-index l.circuit-items)
