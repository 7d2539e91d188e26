use Rattle.std.proofs.Common.{rules}
use Rattle.calls.specs.declared.order.Order.TheVariants.{Release, Close, Reopen, Left, Open, Uses}
use Rattle.orders.proofs.forms.told.Goals as goal

pub returns-in-Safest : goal.returns-in-Safest
returns-in-Safest g c = rw c.in-Safest.is c.safest.ensures

pub returns-in-Widest : goal.returns-in-Widest
returns-in-Widest g c = rw c.in-Widest.is c.widest.ensures

pub returns-in-Book : goal.returns-in-Book
returns-in-Book g c = rw c.in-Book.is c.book.ensures

pub returns-in-Release : goal.returns-in-Release
returns-in-Release g c = rw c.in-Release.is (c.one.ensures Release (λ n o p. search rules))

pub returns-in-Close : goal.returns-in-Close
returns-in-Close g c = rw c.in-Close.is (c.two.ensures Close (λ a b o p. search rules))

pub returns-in-Reopen : goal.returns-in-Reopen
returns-in-Reopen g c = rw c.in-Reopen.is (c.one-in-Reopen.ensures Reopen (λ n o p. search rules))

pub returns-in-Left : goal.returns-in-Left
returns-in-Left g c = rw c.in-Left.is (c.one-in-Left.ensures Left (λ n o p. search rules))

pub returns-in-Open : goal.returns-in-Open
returns-in-Open g c = rw c.in-Open.is (c.one-in-Open.ensures Open (λ n o p. search rules))

pub returns-in-Uses : goal.returns-in-Uses
returns-in-Uses g c = rw c.in-Uses.is (c.two-in-Uses.ensures Uses (λ a b o p. search rules))
