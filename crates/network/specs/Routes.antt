-- Routes, sets of routes, and what a set shares. Assumes nothing.
use Rattle.std.specs.Prelude.{◌≡◌, ℕ, zero, suc, ◌+◌, ◌<◌, ◌≤◌, Bool, true, false, cond, ◌&&◌, ◌||◌, List, [], ◌∷◌, map, length, ◌==◌, slice_index_or}
use Rattle.std.proofs.Common.{arith}
use Rattle.network.specs.Network.{Network, circuit}

abbrev pub Each : {A : Type 0} → (A → Type 0) → List A → Type 0
Each P [] = Unit {0}
Each P (x ∷ xs) = P x × Each P xs

-- what holds of each element holds of the one at a place
pub each_at : {A : Type 0} (P : A → Type 0) (xs : List A) (i : ℕ) (d : A) → i < length xs → Each P xs → P (slice_index_or xs i d)
each_at P [] i d h p = absurd (omega (arith, h))
each_at P (x ∷ xs) zero d h p = p.0
each_at P (x ∷ xs) (suc i) d h p = each_at P xs i d (omega (arith, h)) p.1

-- the circuit stands in the list
abbrev pub uses : ℕ → List ℕ → Bool
uses c [] = false
uses c (d ∷ ds) = c == d || uses c ds

abbrev pub Distinct : List ℕ → Type 0
Distinct [] = Unit {0}
Distinct (x ∷ xs) = (uses x xs ≡ false) × Distinct xs

-- each circuit starts where the one before it ended: from place a to place b
abbrev pub Leads : Network → ℕ → List ℕ → ℕ → Type 0
Leads n a [] b = a ≡ b
Leads n a (c ∷ cs) b = (c < length n.circuits) × ((circuit n c).from ≡ a) × Leads n (circuit n c).to cs b

-- the places that the circuits lead through, after the first
abbrev pub stops : Network → List ℕ → List ℕ
stops n cs = map (λ c. (circuit n c).to) cs

-- one or more circuits from a to b, with no place visited twice
abbrev pub Route : Network → ℕ → ℕ → List ℕ → Type 0
Route n a b cs = (0 < length cs) × Leads n a cs b × Distinct (a ∷ stops n cs)

-- two or more routes between the same two places; the same route may stand in it twice
abbrev pub RouteSet : Network → ℕ → ℕ → List (List ℕ) → Type 0
RouteSet n a b rs = (2 ≤ length rs) × Each (Route n a b) rs

-- how many routes of the set use the circuit
abbrev pub times : ℕ → List (List ℕ) → ℕ
times c [] = 0
times c (r ∷ rs) = cond (uses c r) 1 0 + times c rs

-- every route of the set uses the circuit
abbrev pub shared : ℕ → List (List ℕ) → Bool
shared c [] = true
shared c (r ∷ rs) = uses c r && shared c rs
