use Rattle.std.proofs.Common.{◌≡◌, ◌-◌, length}
use Rattle.image.specs.Layout.{end_of, Scanned}
use Rattle.image.proofs.layout.read_layout.Given as goal

abbrev pub invariant-loop-next : goal.invariant-loop-next
invariant-loop-next l = (l.scan.0.now ≡ l.image) × Scanned l.image l.scan.1.0

-- the bytes that are left
abbrev pub decreases-loop-next : goal.decreases-loop-next
decreases-loop-next l = length l.initial.image - end_of l.scan.1.0
