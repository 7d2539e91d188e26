-- What the laws of a scale make true of shared costs, whatever the scale. Assumes nothing.
use Rattle.std.specs.Prelude.{◌≡◌, ℕ, ◌<◌, true, List, [], ◌∷◌, length}
use Rattle.network.specs.Network.{Network, circuit, Proper}
use Rattle.network.specs.Routes.{uses, shared, Distinct}
use Rattle.scale.specs.Measure.{Measure, AtMost, shared_cost}

-- a set that shares no circuit that another set does not share costs at most as much as the other
abbrev pub SharingLessCostsNoMore : {V : Type 0} → Measure V → Type 0
SharingLessCostsNoMore s =
    (n : Network) → Proper n → (rs rs' : List (List ℕ)) → ((c : ℕ) → shared c rs ≡ true → shared c rs' ≡ true) →
    AtMost s (shared_cost s n rs) (shared_cost s n rs')

-- the list has the number of each circuit of the network that the set shares, once each in some order, and no other number
pub record SharedOnce (n : Network) (rs : List (List ℕ)) (cs : List ℕ) : Type 0 where
  pub once : Distinct cs
  pub only : (c : ℕ) → uses c cs ≡ true → (c < length n.circuits) × (shared c rs ≡ true)
  pub all : (c : ℕ) → c < length n.circuits → shared c rs ≡ true → uses c cs ≡ true

-- what x becomes when the weights of the circuits are joined to it one after the other, in the order of the list
abbrev pub joined_over : {V : Type 0} → Measure V → Network → V → List ℕ → V
joined_over s n x [] = x
joined_over s n x (c ∷ cs) = joined_over s n (s.join x (s.weight (circuit n c).cost)) cs

-- in whatever order the weights of the shared circuits are joined to zero, the result is the shared cost
abbrev pub OrderDoesNotMatter : {V : Type 0} → Measure V → Type 0
OrderDoesNotMatter s =
    (n : Network) → Proper n → (rs : List (List ℕ)) (cs : List ℕ) → SharedOnce n rs cs →
    joined_over s n s.zero cs ≡ shared_cost s n rs
