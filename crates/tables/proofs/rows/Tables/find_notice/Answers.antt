use Rattle.promise.specs.Promise.{notice_number}
use Rattle.tables.specs.Standing.{notice_of, no_notice}
use Rattle.tables.proofs.Numbers.{found}
use Rattle.tables.proofs.rows.Tables.find_notice.Goals as goal

pub returns : goal.returns
returns c = found notice_of notice_number c.args.self.now.notices c.deref.result.now c.args.number no_notice c.find.result c.deref.ensures.value c.find.ensures
