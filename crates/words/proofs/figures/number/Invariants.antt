use Rattle.std.proofs.Common.{ℕ, ◌^◌, ◌<◌, get_or}
use Rattle.words.specs.Figures.{Digit}
use Rattle.words.specs.Decimals.{SoFar}
use Rattle.words.proofs.figures.number.Given as goal

abbrev pub invariant-loop-b : goal.invariant-loop-b
invariant-loop-b l = ((k : ℕ) → k < l.b-index → Digit (get_or l.word k 0)) × SoFar l.word l.n l.b-index × (l.n < 2 ^ 32)
