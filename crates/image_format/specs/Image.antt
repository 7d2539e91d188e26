-- The register image: which bytes stand for which records, and what a load refuses. Assumes nothing.
use Rattle.std.specs.Prelude.{◌≡◌, ℕ, ◌+◌, ◌*◌, ◌/◌, ◌%◌, ◌<◌, ◌≤◌, ◌⊎◌, List, [], ◌∷◌, ◌++◌, map, length, take, drop, slice_index}
use Rattle.network.specs.Checks.{Check, check, First, Passed}
use Rattle.network.specs.declared.register.Circuit.{Circuit}
use Rattle.network.specs.Network.{Sound, BadEnds, BadFigures}
use Rattle.network.specs.Routes.{Each}

-- big-endian figures
abbrev pub be16 : ℕ → List ℕ
be16 x = (x / 256) % 256 ∷ x % 256 ∷ []

abbrev pub be32 : ℕ → List ℕ
be32 x = (x / 16777216) % 256 ∷ (x / 65536) % 256 ∷ (x / 256) % 256 ∷ x % 256 ∷ []

-- the figure that two or four bytes at a place stand for
abbrev pub at16 : List ℕ → ℕ → ℕ
at16 bs i = slice_index bs i * 256 + slice_index bs (i + 1)

abbrev pub at32 : List ℕ → ℕ → ℕ
at32 bs i = at16 bs i * 65536 + at16 bs (i + 2)

-- the marks of a place, a circuit and the end, in ASCII
abbrev pub PL : List ℕ
PL = 80 ∷ 76 ∷ []

abbrev pub CT : List ℕ
CT = 67 ∷ 84 ∷ []

abbrev pub EN : List ℕ
EN = 69 ∷ 78 ∷ []

-- a place's record: its mark, the length of its name, its name
abbrev pub place_bytes : List ℕ → List ℕ
place_bytes name = PL ++ (length name ∷ []) ++ name

-- a circuit's record: its mark and its four figures
abbrev pub circuit_bytes : Circuit → List ℕ
circuit_bytes c = CT ++ be16 c.from ++ be16 c.to ++ be32 c.bandwidth ++ be32 c.cost

-- the end's record: its mark, and how many records come before it
abbrev pub end_bytes : ℕ → List ℕ
end_bytes records = EN ++ be16 records

-- lists one after the other
abbrev pub concat : List (List ℕ) → List ℕ
concat [] = []
concat (x ∷ xs) = x ++ concat xs

-- the places of the names, then the circuits
abbrev pub records_bytes : List (List ℕ) → List Circuit → List ℕ
records_bytes names circuits = concat (map place_bytes names) ++ concat (map circuit_bytes circuits)

-- the name is one of the others
abbrev pub Repeats : List ℕ → List (List ℕ) → Type 0
Repeats name [] = ⊥
Repeats name (x ∷ xs) = (name ≡ x) ⊎ Repeats name xs

-- no name stands twice
abbrev pub Different : List (List ℕ) → Type 0
Different [] = Unit {0}
Different (x ∷ xs) = (Repeats x xs → ⊥) × Different xs

-- a name has 1 to 16 bytes
abbrev pub Name : List ℕ → Type 0
Name name = (1 ≤ length name) × (length name ≤ 16)

-- names and circuits that a register can hold
pub record Records (names : List (List ℕ)) (circuits : List Circuit) : Type 0 where
  pub few_places : length names ≤ 128
  pub few_circuits : length circuits ≤ 384
  pub names_fit : Each Name names
  pub names_differ : Different names
  pub sound : Each (Sound (length names)) circuits

-- the bytes are the image of these names and circuits
pub record Image (bytes : List ℕ) (names : List (List ℕ)) (circuits : List Circuit) : Type 0 where
  pub records : Records names circuits
  pub written : bytes ≡ records_bytes names circuits ++ end_bytes (length names + length circuits)

-- the checks at the record that begins `rest`, after those names and circuits
module _ (names : List (List ℕ)) (circuits : List Circuit) (rest : List ℕ) where
  -- that mark stands there
  abbrev pub Marked : List ℕ → Type 0
  Marked mark = take 2 rest ≡ mark

  -- short, or a mark that is none of the three
  abbrev pub mark_checks : List Check
  mark_checks = check 1 (length rest < 2) ∷ check 2 ((Marked PL ⊎ (Marked CT ⊎ Marked EN)) → ⊥) ∷ []

  -- the length byte, and the name after it
  abbrev pub size : ℕ
  size = slice_index rest 2

  -- a place after a circuit, one too many, cut short before its length, of a wrong length, cut short, a name again
  abbrev pub place_checks : List Check
  place_checks =
      check 4 (1 ≤ length circuits)
      ∷ check 7 (128 ≤ length names)
      ∷ check 1 (length rest < 3)
      ∷ check 3 ((1 ≤ size) × (size ≤ 16) → ⊥)
      ∷ check 1 (length rest < 3 + size)
      ∷ check 3 (Repeats (take size (drop 3 rest)) names)
      ∷ []

  -- the circuit that the bytes after the mark stand for
  abbrev pub told : Circuit
  told = record { from = at16 rest 2; to = at16 rest 4; bandwidth = at32 rest 6; cost = at32 rest 10 }

  -- one too many, cut short, bad ends, bad figures
  abbrev pub circuit_checks : List Check
  circuit_checks =
      check 7 (384 ≤ length circuits)
      ∷ check 1 (length rest < 14)
      ∷ check 5 (BadEnds (length names) told)
      ∷ check 6 (BadFigures told)
      ∷ []

  -- cut short, a wrong count or bytes after it
  abbrev pub end_checks : List Check
  end_checks =
      check 1 (length rest < 4)
      ∷ check 8 ((at16 rest 2 ≡ length names + length circuits) × (length rest ≡ 4) → ⊥)
      ∷ []

  -- the number of the first check that this record fails
  abbrev pub Fault : ℕ → Type 0
  Fault k = First k mark_checks ⊎ (Passed mark_checks × ((Marked PL × First k place_checks) ⊎ ((Marked CT × First k circuit_checks) ⊎ (Marked EN × First k end_checks))))

-- a load is refused: sound records come first, and the one that begins at the offset fails
pub record Refused (bytes : List ℕ) (number offset : ℕ) : Type 0 where
  pub names : List (List ℕ)
  pub circuits : List Circuit
  pub rest : List ℕ
  pub records : Records names circuits
  pub before : bytes ≡ records_bytes names circuits ++ rest
  pub at : offset ≡ length (records_bytes names circuits)
  pub fault : Fault names circuits rest number
