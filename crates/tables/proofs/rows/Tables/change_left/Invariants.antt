use Rattle.tables.specs.Standing.{feed_of, left_at, taken_by}
use Rattle.tables.proofs.Taking.{Changed}
use Rattle.tables.proofs.rows.Tables.change_left.Given as goal

abbrev pub invariant-loop-number : goal.invariant-loop-number
invariant-loop-number g l = Changed (λ c left. goal.F-post g l.change (left_at l.initial.self c) (taken_by (feed_of l.feed) c) left) l.initial.self l.self l.number
