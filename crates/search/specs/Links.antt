-- The arcs that start at one place, or end at it, each with a link to the next. Assumes nothing.
use Rattle.std.specs.Prelude.{◌≡◌, ℕ, ◌+◌, ◌<◌, ◌≤◌, ◌==◌, List, length, drop, filter, ◌≢◌, slice_index}
use Rattle.std.specs.List.{enumerate_from}
use Rattle.search.specs.declared.Arc.{Arc}
use Rattle.search.specs.declared.graph.By.{By}
use Rattle.search.specs.declared.graph.By.TheVariants.{Start, End}
use Rattle.search.specs.declared.graph.Chains.{Chains}
use Rattle.search.specs.Graph.{arc}

-- c is the first arc numbered lo or more whose end, as e tells it, is p; where there is none, c is past all arcs
pub record Following (g : List Arc) (e : Arc → ℕ) (p lo c : ℕ) : Type 0 where
  pub after : lo ≤ c
  pub on : c < length g → e (arc g c) ≡ p
  pub gap : (d : ℕ) → lo ≤ d → d < c → d < length g → e (arc g d) ≢ p

-- of the arcs numbered lo or more, first has the first one of each place, and next the one after each with the same end
pub record Linked (g : List Arc) (e : Arc → ℕ) (lo : ℕ) (first next : List ℕ) : Type 0 where
  pub starts : (p : ℕ) → p < 128 → Following g e p lo (slice_index first p)
  pub goes_on : (c : ℕ) → lo ≤ c → c < length g → Following g e (e (arc g c)) (c + 1) (slice_index next c)
  pub wide : length first ≡ 128
  pub long : length next ≡ 384

-- the arcs by the place where they start
abbrev pub ByStart : List Arc → List ℕ → List ℕ → Type 0
ByStart g first next = Linked g (λ x. x.from) 0 first next

-- the arcs by the place where they end
abbrev pub ByEnd : List Arc → List ℕ → List ℕ → Type 0
ByEnd g first next = Linked g (λ x. x.to) 0 first next

-- the arcs both ways
pub record Indexed (g : List Arc) (starts ends : Chains) : Type 0 where
  pub out : ByStart g starts.first starts.next
  pub into : ByEnd g ends.first ends.next

-- the place at that end of an arc
abbrev pub end_by : By → Arc → ℕ
end_by Start x = x.from
end_by End x = x.to

-- the arcs numbered lo or more that have the place p at that end, each with its number
abbrev pub arcs_at : List Arc → By → ℕ → ℕ → List (ℕ × Arc)
arcs_at g by p lo = filter (λ x. end_by by x.1 == p) (enumerate_from lo (drop lo g))
