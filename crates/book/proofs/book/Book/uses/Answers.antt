use Rattle.std.proofs.Common.{ℕ, sym, refl, subst, inl, inr, arith}
use Rattle.promise.specs.Promise.{Used}
use Rattle.tables.specs.Standing.{ledger_of, no_feed}
use Rattle.tables.proofs.Booking.{used_at}
use Rattle.book.proofs.Planning.{feeds_long}
use Rattle.book.proofs.book.Book.uses.Goals as goal

pub returns : goal.returns
returns g c =
    let b = c.args.self.now in
    let n = g.R.Register.network b.register in
    let s = g.S.Scale.measure in
    let l = ledger_of b.tables in
    let found = rw c.in_ok-i.ensures.1 at c.find_feed.ensures in
    record {
      right = (
        (c.in_ok-i.ensures.0, ((λ bad. elim bad [ inl none ↦ none found.2 | inr past ↦ c.in_ok-check_circuit.ensures.0 past ]), tt)),
        subst (λ (k : ℕ). Used s n l c.args.feed c.args.circuit k l.feeds) (sym c.uses.ensures) (used_at s n l c.args.feed c.args.circuit l.feeds c.in_ok-i.i no_feed (omega (arith, feeds_long b.tables, found.0)) found.1),
      );
      told_ledger = refl;
      keeps = b.keeps;
    }
