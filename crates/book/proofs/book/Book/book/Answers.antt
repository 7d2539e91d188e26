use Rattle.std.proofs.lemmas.Result.{err_from_is_err_and}
use Rattle.std.proofs.Common.{refl, ℕ, ◌<◌, ◌≤◌, length, arith}
use Rattle.promise.specs.Ledger.{takes}
use Rattle.tables.specs.Standing.{ledger_of, route_of, left_at}
use Rattle.tables.proofs.Booking.{left_kept, takes_fits}
use Rattle.book.proofs.book.Book.book.Goals as goal

pub invariant_of-self : goal.invariant_of-self
invariant_of-self g c =
    let b = c.args.self.now in
    let n = g.R.Register.network b.register in
    let a = c.args.ask in
    let p = c.in_ok-plan.plan in
    let f = route_of p.first in
    let h = route_of p.second in
    let fits : (k : ℕ) → k < length n.circuits → takes a.mode a.rate f h k ≤ left_at b.tables k =
    λ k i. omega (arith, left_kept n b.tables b.keeps k i, takes_fits n (ledger_of b.tables) a.mode a.rate f h c.in_ok-plan.ensures.plan.0.choice.1 k) in
    record { keeps = c.add.ensures.keeps n b.keeps c.in_ok-plan.ensures.checked.1.0 fits }

pub returns-in_err-plan-clause-right : goal.returns-in_err-plan-clause-right
returns-in_err-plan-clause-right g c =
    let e = err_from_is_err_and c.from_residual.result c.from_residual.ensures.1 in
    rw (e.1, e.2) (record { right = c.in_err-plan.ensures.checked; told_ledger = refl; keeps = c.args.self.now.keeps })
