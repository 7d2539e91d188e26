use Rattle.std.proofs.Common.{◌∷◌, [], ◌++◌, map, vec_items, ap, ◌∙◌}
use Rattle.std.proofs.lemmas.List.{map_push}
use Rattle.tables.specs.Standing.{feed_of, notice_of}
use Rattle.tables.proofs.Keeping.{keeps_added}
use Rattle.tables.proofs.rows.Tables.add.Goals as goal

pub returns-clause-keeps : goal.returns-clause-keeps
returns-clause-keeps c = λ n keeps none fits.
    let rest = c.take.ensures.rest in
    let f = feed_of c.args.feed in
    let feeds = ap (map feed_of) c.push_reserved.ensures.items ∙ map_push feed_of (vec_items c.take.new.self.feeds) c.args.feed ∙ ap (λ v. map feed_of (vec_items v) ++ f ∷ []) rest.feeds in
    keeps_added n c.args.self.now _ rest.circuits keeps f feeds (ap (λ v. map notice_of (vec_items v)) rest.notices) c.take.ensures.left none fits
