-- The roll of the places that a search has seen, and what is known of those that it has dealt with. Assumes nothing.
use Rattle.std.specs.Prelude.{◌≡◌, ℕ, ◌<◌, ◌≤◌, List, length, slice_index, slice_index_or}
use Rattle.search.specs.declared.Arc.{Arc}
use Rattle.search.specs.declared.spread.Seen.{Seen}
use Rattle.search.specs.Graph.{arc}
use Rattle.search.specs.Trees.{Step}

-- place p is seen
abbrev pub IsSeen : Seen → ℕ → Type 0
IsSeen s p = 0 < slice_index s.rank p

-- from s to t at most the place p was added, by the arc c, and now it is seen
pub record Noted (s t : Seen) (p c : ℕ) : Type 0 where
  pub seen : IsSeen t p
  pub kept : (q : ℕ) → IsSeen s q → (slice_index t.rank q ≡ slice_index s.rank q) × (slice_index t.via q ≡ slice_index s.via q)
  pub new : (q : ℕ) → slice_index s.rank q ≡ 0 → IsSeen t q → (q ≡ p) × (slice_index t.via q ≡ c)
  pub later : (q : ℕ) → slice_index s.rank q ≡ 0 → IsSeen t q → s.count < slice_index t.rank q
  pub rises : s.count ≤ t.count

-- the search went on from s to t: what was seen is as it was, and each new place, with a higher rank, was seen by an
-- arc that carries something, used back, or by one that F allows
pub record More (g : List Arc) (f : List ℕ) (F : ℕ → Type 0) (s t : Seen) : Type 0 where
  pub kept : (p : ℕ) → IsSeen s p → (slice_index t.rank p ≡ slice_index s.rank p) × (slice_index t.via p ≡ slice_index s.via p)
  pub new : (p : ℕ) → slice_index s.rank p ≡ 0 → IsSeen t p → Step g f F t.rank (slice_index t.via p) p
  pub later : (p : ℕ) → slice_index s.rank p ≡ 0 → IsSeen t p → s.count < slice_index t.rank p
  pub rises : s.count ≤ t.count

-- a usable arc that carries nothing
pub record Unused (g : List Arc) (f : List ℕ) (c : ℕ) : Type 0 where
  pub usable : 0 < (arc g c).lanes
  pub idle : slice_index_or f c 0 ≡ 0

-- each usable arc from p that carries nothing leads to a seen place
abbrev pub SpentForth : List Arc → List ℕ → Seen → ℕ → Type 0
SpentForth g f s p = (c : ℕ) → c < length g → (arc g c).from ≡ p → Unused g f c → IsSeen s (arc g c).to

-- each arc that brings something to p comes from a seen place
abbrev pub SpentBack : List Arc → List ℕ → Seen → ℕ → Type 0
SpentBack g f s p = (c : ℕ) → c < length g → (arc g c).to ≡ p → 0 < slice_index f c → IsSeen s (arc g c).from

-- each usable arc from p leads to a seen place
abbrev pub Passed : List Arc → Seen → ℕ → Type 0
Passed g s p = (c : ℕ) → c < length g → (arc g c).from ≡ p → 0 < (arc g c).lanes → IsSeen s (arc g c).to

-- a usable arc leads from a place that is seen to one that is not
pub record Leaves (g : List Arc) (s : Seen) (c : ℕ) : Type 0 where
  pub is : c < length g
  pub usable : 0 < (arc g c).lanes
  pub seen : IsSeen s (arc g c).from
  pub new : slice_index_or s.rank (arc g c).to 0 ≡ 0

-- P holds of the first n places that were seen
abbrev pub OfFirst : ℕ → Seen → (ℕ → Type 0) → Type 0
OfFirst n s P = (p : ℕ) → IsSeen s p → slice_index s.rank p ≤ n → P p
