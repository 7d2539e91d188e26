use Rattle.std.proofs.Common.{◌∙◌, eqb, rules}
use Rattle.std.proofs.lemmas.Iterator.{YieldsList-from_slice}
use Rattle.std.proofs.lemmas.Iterator.Search.{any_from_yields_List}
use borrow.Author.Tests.{tests}
use Rattle.tables.specs.declared.rows.Notice.{Notice}
use Rattle.tables.proofs.Opening.{named_any, open_where_unused}
use Rattle.tables.proofs.rows.Tables.is_open.Goals as goal

pub returns : goal.returns
returns c =
    let k = c.args.circuit in
    let xs = c.args.self.now.notices.items in
    open_where_unused k xs _
    (any_from_yields_List (λ (x : Notice). eqb x.circuit k) _ _ _ c.any.ensures.ran (YieldsList-from_slice xs cc) (λ x b q e. search (rules, tests)) ∙ named_any k xs)
