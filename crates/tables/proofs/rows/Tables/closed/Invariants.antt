use Rattle.std.proofs.Common.{take}
use Rattle.tables.proofs.Marking.{Marked}
use Rattle.tables.proofs.Opening.{named}
use Rattle.tables.proofs.rows.Tables.closed.Given as goal

abbrev pub invariant-loop-notice : goal.invariant-loop-notice
invariant-loop-notice l = Marked l.closed (named (take l.notice-index l.notice-items))
