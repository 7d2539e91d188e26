-- The main route of an answer: the one that holds fewer circuits. Assumes nothing.
use Rattle.std.specs.Prelude.{ℕ, ◌<◌, cond, ◌⊎◌, List, length, take, nat_le}

-- A route of m circuits stands at the start of the first list, one of n circuits at the start of the second:
-- the one with fewer circuits, and the first where both hold as many.
abbrev pub shorter : List ℕ → ℕ → List ℕ → ℕ → List ℕ
shorter first m second n = cond (nat_le m n) (take m first) (take n second)

-- a length is beyond its list
abbrev pub Beyond : List ℕ → ℕ → List ℕ → ℕ → Type 0
Beyond first m second n = (length first < m) ⊎ (length second < n)
