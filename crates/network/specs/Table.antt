-- The load of a table of circuit records. Assumes nothing.
use Rattle.std.specs.Prelude.{◌≡◌, ℕ, ◌<◌, ◌≤◌, ◌⊎◌, List, [], ◌∷◌, length, ◌≢◌, slice_index_or}
use Rattle.network.specs.Checks.{Check, check, First, Passed}
use Rattle.network.specs.declared.register.Circuit.{Circuit}
use Rattle.network.specs.Network.{Network, Sound, BadEnds, BadFigures, Proper, circuit, no_circuit}

-- what is checked first: no more places and circuits than a register holds
abbrev pub count_checks : Network → List Check
count_checks n = check 7 ((128 < n.places) ⊎ (384 < length n.circuits)) ∷ []

-- what is checked of a record among that many places: its ends, and then its figures
abbrev pub circuit_checks : ℕ → Circuit → List Check
circuit_checks places c = check 5 (BadEnds places c) ∷ check 6 (BadFigures c) ∷ []

-- the same of the record of that number
abbrev pub record_checks : Network → ℕ → List Check
record_checks n i = circuit_checks n.places (circuit n i)

-- The load is refused with that number at that record: the counts are too large, told at record 0, or the record is
-- the first that fails a check.
abbrev pub Refused : Network → ℕ → ℕ → Type 0
Refused n number at = ((at ≡ 0) × First number (count_checks n)) ⊎ (Passed (count_checks n) × (at < length n.circuits) × First number (record_checks n at) × ((i : ℕ) → i < at → Sound n.places (circuit n i)))

-- the network of that many places and those circuits
abbrev pub table : ℕ → List Circuit → Network
table places circuits = record { places = places; circuits = circuits }

-- each circuit joins two different ones of that many places
abbrev pub GoodEnds : ℕ → List Circuit → Type 0
GoodEnds places circuits = (i : ℕ) → i < length circuits → ((slice_index_or circuits i no_circuit).from < places) × ((slice_index_or circuits i no_circuit).to < places) × ((slice_index_or circuits i no_circuit).from ≢ (slice_index_or circuits i no_circuit).to)

-- the bandwidth and the cost of each circuit are within their limits
abbrev pub GoodFigures : List Circuit → Type 0
GoodFigures circuits = (i : ℕ) → i < length circuits → (1 ≤ (slice_index_or circuits i no_circuit).bandwidth) × ((slice_index_or circuits i no_circuit).bandwidth ≤ 64000000) × ((slice_index_or circuits i no_circuit).cost ≤ 1000000)

-- the limits, told of a table, are those of its network
pub table_proper : (places : ℕ) (circuits : List Circuit) → places ≤ 128 → length circuits ≤ 384 → GoodEnds places circuits → GoodFigures circuits → Proper (table places circuits)
table_proper places circuits p c e f =
    record { few_places = p; few_circuits = c; each = λ i h. record { from_place = (e i h).0; to_place = (e i h).1; apart = (e i h).2; some_bandwidth = (f i h).0; most_bandwidth = (f i h).1; most_cost = (f i h).2 } }

-- a load is refused, with some number at some record
pub record Fails (n : Network) : Type 0 where
  pub number : ℕ
  pub at : ℕ
  pub refused : Refused n number at

-- what keeps the limits is not refused
abbrev pub ProperNotRefused : Type 0
ProperNotRefused = (n : Network) (number at : ℕ) → Proper n → Refused n number at → ⊥

-- a refusal has one number and one record
abbrev pub OneTableRefusal : Type 0
OneTableRefusal = (n : Network) (number number' at at' : ℕ) → Refused n number at → Refused n number' at' → (number ≡ number') × (at ≡ at')

-- every table keeps the limits or is refused
abbrev pub ProperOrRefused : Type 0
ProperOrRefused = (n : Network) → Proper n ⊎ Fails n
