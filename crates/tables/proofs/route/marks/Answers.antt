use Rattle.std.proofs.Common.{get_or, take, sym, subst}
use Rattle.std.proofs.lemmas.List.{take_more}
use Rattle.tables.proofs.Marking.{Marked, marked_none, marked_more}
use Rattle.tables.proofs.route.marks.Goals as goal

pub loop-circuit-init : goal.loop-circuit-init
loop-circuit-init c = marked_none

pub loop-circuit-preserved : goal.loop-circuit-preserved
loop-circuit-preserved c =
    let cs = c.as_slice-circuit-items.result.now in
    let i = c.loop-circuit.circuit-index in
    subst (Marked c.mark.new.marks) (sym (take_more cs i 0 c.loop-circuit-test.true))
    (marked_more c.loop-circuit.marks c.mark.new.marks (take i cs) (get_or cs i 0) (rw c.from.ensures at c.mark.ensures) c.loop-circuit.invariant)
