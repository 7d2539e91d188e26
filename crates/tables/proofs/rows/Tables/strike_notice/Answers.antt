use Rattle.std.proofs.Common.{◌<◌, map, length, vec_items, sym, refl, ap, ◌∙◌, subst, arith}
use Rattle.promise.specs.Promise.{notice_number}
use Rattle.tables.specs.Standing.{Apart, notice_of, no_notice, ledger_of}
use Rattle.tables.proofs.Entries.{entries_length}
use Rattle.tables.proofs.Keeping.{keeps_notices, map_removed}
use Rattle.tables.proofs.Numbers.{apart_removed, struck_at}
use Rattle.tables.proofs.rows.Tables.strike_notice.Goals as goal

pub returns-clause-notices : goal.returns-clause-notices
returns-clause-notices c = ap (map notice_of) c.remove.ensures.items ∙ map_removed notice_of (vec_items c.args.self.now.notices) c.args.i

pub returns-clause-keeps : goal.returns-clause-keeps
returns-clause-keeps c = λ n keeps.
    let old = c.args.self.now in
    let i = c.args.i in
    let within : i < length (ledger_of old).notices = omega (arith, entries_length notice_of old.notices) in
    let notices = returns-clause-notices c in
    let one = struck_at notice_number (ledger_of old).notices i no_notice within keeps.notices_apart in (
      λ j. record { feeds = (ledger_of old).feeds; notices = (notices ∙ sym one) j },
      keeps_notices n old _ refl refl keeps (subst (Apart notice_number) (sym notices) (apart_removed notice_number (ledger_of old).notices i keeps.notices_apart)),
    )
