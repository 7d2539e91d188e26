-- The words of a line of bytes. Assumes nothing.
use Rattle.std.specs.Prelude.{◌≡◌, ℕ, ◌<◌, ◌⊎◌, List, [], ◌∷◌, ◌++◌, length, ◌≢◌}
use Rattle.std.specs.List.{AllByRecursion}

-- a space, a tab or a carriage return
abbrev pub Blank : ℕ → Type 0
Blank b = (b ≡ 32) ⊎ ((b ≡ 9) ⊎ (b ≡ 13))

-- a byte of a word: no blank, and not the `#` that begins a comment
abbrev pub Inner : ℕ → Type 0
Inner b = (Blank b → ⊥) × (b ≢ 35)

-- bytes that do not begin with one of that kind
abbrev pub Off : (ℕ → Type 0) → List ℕ → Type 0
Off P [] = Unit {0}
Off P (b ∷ rest) = P b → ⊥

-- nothing, or a comment
abbrev pub Ends : List ℕ → Type 0
Ends [] = Unit {0}
Ends (b ∷ rest) = b ≡ 35

abbrev pub Word : List ℕ → Type 0
Word w = (0 < length w) × AllByRecursion Inner w

-- A line has no words where it is blanks and then nothing or a comment. Its words are `w` and `ws` where it is blanks, the
-- word `w`, and a rest that does not go on with the word and whose words are `ws`.
abbrev pub Splits : List ℕ → List (List ℕ) → Type 0
Splits line [] = (gap : List ℕ) × (rest : List ℕ) × (line ≡ gap ++ rest) × AllByRecursion Blank gap × Ends rest
Splits line (w ∷ ws) =
    (gap : List ℕ) × (rest : List ℕ) × (line ≡ gap ++ (w ++ rest)) × AllByRecursion Blank gap × Word w × Off Inner rest × Splits rest ws

-- the line's first word, and the rest of the line after it, whose words are the others
pub record Next (line word rest : List ℕ) : Type 0 where
  pub some : 0 < length word
  pub within : (gap : List ℕ) × (line ≡ gap ++ (word ++ rest))
  pub splits : (ws : List (List ℕ)) → Splits rest ws → Splits line (word ∷ ws)
