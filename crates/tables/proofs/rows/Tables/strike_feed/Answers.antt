use Rattle.std.proofs.Common.{◌<◌, map, length, vec_items, sym, ap, ◌∙◌, arith}
use Rattle.promise.specs.Promise.{feed_number}
use Rattle.tables.specs.Standing.{feed_of, no_feed, notice_of, ledger_of}
use Rattle.tables.proofs.Entries.{entries_length, entry_read}
use Rattle.tables.proofs.Keeping.{keeps_struck, map_removed}
use Rattle.tables.proofs.Numbers.{struck_at}
use Rattle.tables.proofs.rows.Tables.strike_feed.Goals as goal

pub returns-clause-feeds : goal.returns-clause-feeds
returns-clause-feeds c =
    ap (λ v. map feed_of (vec_items v)) c.give_back.ensures.rest.feeds ∙ ap (map feed_of) c.remove-feed.ensures.items ∙ map_removed feed_of (vec_items c.args.self.now.feeds) c.args.i

pub returns-clause-left : goal.returns-clause-left
returns-clause-left c = λ k h. rw (entry_read feed_of c.args.self.now.feeds c.args.i c.remove-feed.result no_feed c.requires c.remove-feed.ensures.value) (c.give_back.ensures.left k h)

pub returns-clause-keeps : goal.returns-clause-keeps
returns-clause-keeps c = λ n proper keeps.
    let old = c.args.self.now in
    let i = c.args.i in
    let within : i < length (ledger_of old).feeds = omega (arith, entries_length feed_of old.feeds) in
    let rest = c.give_back.ensures.rest in
    let feeds = returns-clause-feeds c in
    let told = ap (λ v. map notice_of (vec_items v)) rest.notices in
    let one = struck_at feed_number (ledger_of old).feeds i no_feed within keeps.feeds_apart in
    (λ j. record { feeds = (feeds ∙ sym one) j; notices = told j }, keeps_struck n old _ rest.circuits keeps proper i within feeds told (returns-clause-left c))
