-- Three scales: the total of the costs, the worst of them, and their number and total. Assumes nothing.
use Rattle.std.specs.Prelude.{ℕ, ◌+◌, ◌≤◌, min, max, Bool, if◌then◌else◌, ◌&&◌, ◌||◌, ◌==◌, nat_le, nat_lt}
use Rattle.scale.specs.Measure.{Measure}

-- the largest number of 32 bits
abbrev pub most : ℕ
most = 4294967295

-- a scale of numbers up to the most: weights are costs, and only what joining is differs from one to another
abbrev pub numbers : (ℕ → ℕ → ℕ) → Measure ℕ
numbers join = record { value = λ x. x ≤ most; zero = 0; weight = λ c. c; join = join; at_most = nat_le }

-- the total of the costs: joining adds, and stops at the most
abbrev pub total : Measure ℕ
total = numbers (λ x y. min (x + y) most)

-- the worst of the costs: joining takes the larger
abbrev pub worst : Measure ℕ
worst = numbers max

-- two tallies, each a number of circuits and their total cost: both are added; a number past 65535 stops both, the total alone stops at the most
abbrev pub tally_join : ℕ × ℕ → ℕ × ℕ → ℕ × ℕ
tally_join x y = if nat_le (x.0 + y.0) 65535 then (x.0 + y.0, min (x.1 + y.1) most) else (65535, most)

-- the number counts first, then the total
abbrev pub tally_at_most : ℕ × ℕ → ℕ × ℕ → Bool
tally_at_most x y = nat_lt x.0 y.0 || (x.0 == y.0 && nat_le x.1 y.1)

-- how many circuits, and the total of their costs
abbrev pub tally : Measure (ℕ × ℕ)
tally = record { value = λ x. (x.0 ≤ 65535) × (x.1 ≤ most); zero = (0, 0); weight = λ c. (1, c); join = tally_join; at_most = tally_at_most }
