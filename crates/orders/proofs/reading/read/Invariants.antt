use Rattle.std.proofs.Common.{◌≡◌, ℕ, ◌-◌, ◌≤◌, List, ◌++◌, length, take}
use Rattle.words.specs.Figures.{texts}
use Rattle.orders.specs.Lines.{Splits}
use Rattle.orders.proofs.reading.read.Given as goal

-- the words kept come first, and those of the rest follow
abbrev pub invariant-loop-count : goal.invariant-loop-count
invariant-loop-count g l =
    (l.count ≤ 8) × (length l.words ≡ 8)
    × ((ws : List (List ℕ)) → Splits l.rest ws → Splits l.line (texts (take l.count l.words) ++ ws))

abbrev pub decreases-loop-count : goal.decreases-loop-count
decreases-loop-count g l = 8 - l.count
