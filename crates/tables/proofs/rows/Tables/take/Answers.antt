use Rattle.std.proofs.Common.{rules}
use Rattle.tables.proofs.rows.Tables.take.Goals as goal

pub returns-clause-left : goal.returns-clause-left
returns-clause-left c = λ k h. let p = c.change_left.ensures.left k h in search rules
