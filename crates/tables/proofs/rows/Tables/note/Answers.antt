use Rattle.std.proofs.Common.{map, vec_items, sym, refl, ap, ◌∙◌, subst}
use Rattle.std.proofs.lemmas.List.{map_push}
use Rattle.promise.specs.Promise.{notice_number}
use Rattle.tables.specs.Standing.{Apart, notice_of, ledger_of}
use Rattle.tables.proofs.Keeping.{keeps_notices}
use Rattle.tables.proofs.Numbers.{apart_push}
use Rattle.tables.proofs.rows.Tables.note.Goals as goal

pub returns-clause-keeps : goal.returns-clause-keeps
returns-clause-keeps c = λ n keeps none.
    let old = c.args.self.now in
    let notices = ap (map notice_of) c.push_reserved.ensures.items ∙ map_push notice_of (vec_items old.notices) c.args.notice in
    keeps_notices n old _ refl refl keeps
    (subst (Apart notice_number) (sym notices) (apart_push notice_number (ledger_of old).notices (notice_of c.args.notice) keeps.notices_apart none))
