use Rattle.std.proofs.Common.{◌≤◌, length, arith}
use Rattle.std.proofs.lemmas.Grind.{common_steps}
use Rattle.promise.specs.Promise.{Stands, feed_number}
use Rattle.tables.specs.Standing.{ledger_of}
use Rattle.book.proofs.Planning.{feeds_long, booking_checked}
use Rattle.book.proofs.book.Book.plan_feed.Goals as goal

pub returns-clause-checked : goal.returns-clause-checked
returns-clause-checked g c =
    let t = c.args.self.now.tables in
    let l = ledger_of t in
    let new : Stands feed_number c.args.feed l.feeds → ⊥ = grind (arith, common_steps) in
    let room : 32 ≤ length l.feeds → ⊥ = λ full. c.in_ok-check_room.ensures.0 (omega (arith, feeds_long t)) in
    let q = c.in_ok-question.ensures.question in
    booking_checked _ g.met.S.Scale.lawful _ _ _ _ _ _ _ _ _ _ _
    (c.in_ok-fresh.ensures.0, (new, (room, (c.in_ok-question.ensures.places.0, (c.in_ok-check_rate.ensures.0, c.in_ok-check_lists.ensures)))))
    ((rw (q.0, q.1, q.2, q.3, q.4) at c.safest_within.ensures) c.args.self.now.keeps)
