use Rattle.std.proofs.Common.{◌≡◌, take, vec_items, vec_len}
use Rattle.calls.specs.Calls.{entries}
use Rattle.runs.proofs.Running.{SoFar}
use Rattle.runs.proofs.run.Given as goal

-- as many answers as orders so far, on a book over the same register, and the run so far is right
abbrev pub invariant-loop-order : goal.invariant-loop-order
invariant-loop-order g l =
    (vec_len l.answers ≡ l.order-index)
    × (l.book.register ≡ l.initial.book.register)
    × SoFar g.S.Scale.measure (g.R.Register.network l.initial.book.register) l.book.tables (entries (take l.order-index l.orders) (vec_items l.answers))
