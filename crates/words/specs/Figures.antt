-- What the single words of an order stand for: numbers, places, modes and limits. Assumes nothing.
use Rattle.std.specs.Prelude.{◌≡◌, ℕ, ◌+◌, ◌-◌, ◌*◌, ◌^◌, ◌<◌, ◌≤◌, ◌⊎◌, List, [], ◌∷◌, ◌++◌, map, length, Some, None, Ok, Err, codes, Option, Result, ◌≢◌, slice_index, slice_index_or}
use Rattle.std.specs.Borrow.{Bor}
use Rattle.std.specs.List.{AllByRecursion}
use Rattle.promise.specs.declared.Mode.{Mode}
use Rattle.promise.specs.declared.Mode.TheVariants.{OnePlusOne, OneToOne}

-- what is read is meant, and where nothing is read nothing is meant
abbrev pub Reads : {T E : Type 0} → Result T E → (T → Type 0) → Type 0
Reads (Ok x) P = P x
Reads {T} (Err e) P = (x : T) → P x → ⊥

abbrev pub Found : {T : Type 0} → Option T → (T → Type 0) → Type 0
Found (Some x) P = P x
Found {T} None P = (x : T) → P x → ⊥

-- '0' to '9'
abbrev pub Digit : ℕ → Type 0
Digit c = (48 ≤ c) × (c ≤ 57)

-- the number that digits write in base ten
abbrev pub decimal : List ℕ → ℕ
decimal [] = 0
decimal (c ∷ cs) = (c - 48) * 10 ^ length cs + decimal cs

-- a number of so many bits: one digit or more, and nothing else
abbrev pub Numeral : ℕ → List ℕ → ℕ → Type 0
Numeral bits word n = (0 < length word) × AllByRecursion Digit word × (n ≡ decimal word) × (n < 2 ^ bits)

-- the texts that a list of borrowed texts holds
abbrev pub texts : List (Bor (List ℕ)) → List (List ℕ)
texts xs = map (λ x. x.now) xs

-- the first place of that name, by its number
abbrev pub Named : List (List ℕ) → List ℕ → ℕ → Type 0
Named names word n =
    (n < length names) × (slice_index_or names n [] ≡ word) × ((k : ℕ) → k < n → slice_index_or names k [] ≢ word) × (n < 2 ^ 32)

-- a place goes by its number, or by its name where the word is not all digits
abbrev pub Place : List (List ℕ) → List ℕ → ℕ → Type 0
Place names word n = (AllByRecursion Digit word × Numeral 32 word n) ⊎ ((AllByRecursion Digit word → ⊥) × Named names word n)

abbrev pub mode_text : Mode → List ℕ
mode_text OnePlusOne = codes "1+1"
mode_text OneToOne = codes "1:1"

-- the first colon stands there
abbrev pub FirstColon : List ℕ → ℕ → Type 0
FirstColon word i = (i < length word) × (slice_index word i ≡ 58) × ((k : ℕ) → k < i → slice_index word k ≢ 58)

-- a limit by tally: the count, a colon, and the total
abbrev pub TallyLimit : List ℕ → ℕ × ℕ → Type 0
TallyLimit word v = (count : List ℕ) × (total : List ℕ) × (word ≡ count ++ (58 ∷ total)) × Numeral 16 count v.0 × Numeral 32 total v.1

-- a word stands for one value at most
abbrev pub Single : {V : Type 0} → (List ℕ → V → Type 0) → Type 0
Single {V} P = (word : List ℕ) (x y : V) → P word x → P word y → x ≡ y
