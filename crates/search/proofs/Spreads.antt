-- A search goes on from one place along its arcs. Assumes nothing.
use Rattle.std.proofs.Common.{◌≡◌, ℕ, ◌∙◌, ◌<◌, List, ◌∷◌, get_or, sym, ap, subst, arith}
use Rattle.search.specs.declared.Arc.{Arc}
use Rattle.search.specs.declared.spread.Seen.{Seen}
use Rattle.search.specs.declared.graph.By.{By}
use Rattle.search.specs.declared.graph.By.TheVariants.{Start, End}
use Rattle.search.specs.Graph.{arc}
use Rattle.search.specs.Links.{arcs_at}
use Rattle.search.specs.Trees.{Never}
use Rattle.search.specs.Rolls.{IsSeen, Noted, More, Unused}
use Rattle.search.proofs.Chained.{IsAt, Walked, walked_none, walked_at, walked_more}
use Rattle.search.proofs.Rolled.{more_none, more_more, more_forth, more_back, stays}

-- from s0 to s each arc at p that is not left and that Goes allows led to a place that is seen
pub record SpreadTo (g : List Arc) (f : List ℕ) (F : ℕ → Type 0) (by : By) (far : Arc → ℕ) (Goes : ℕ → Type 0) (s0 s : Seen) (p : ℕ) (left : List (ℕ × Arc)) : Type 0 where
  pub more : More g f F s0 s
  pub walked : Walked g by p (λ d. Goes d → IsSeen s (far (arc g d))) left

module _ (g : List Arc) (f : List ℕ) (F : ℕ → Type 0) (by : By) (far : Arc → ℕ) (Goes : ℕ → Type 0) (s0 : Seen) (p : ℕ) where
  pub spread_none : (left : List (ℕ × Arc)) → left ≡ arcs_at g by p 0 → SpreadTo g f F by far Goes s0 s0 p left
  spread_none left e = record { more = more_none g f F s0; walked = walked_none g by p _ left e }

  module _ (left next : List (ℕ × Arc)) (x : ℕ × Arc) (e : left ≡ x ∷ next) (s : Seen) (old : SpreadTo g f F by far Goes s0 s p left) where
    pub spread_at : IsAt g by p x
    spread_at = walked_at g by p _ left next x e old.walked

    -- an arc of no use
    pub spread_past : (Goes x.0 → ⊥) → SpreadTo g f F by far Goes s0 s p next
    spread_past idle = record {
      more = old.more;
      walked = walked_more g by p _ left next x e (λ d. Goes d → IsSeen s (far (arc g d))) old.walked (λ d h. h) (λ u. absurd (idle u));
    }

    -- an arc that led on
    pub spread_by : (t : Seen) → More g f F s t → IsSeen t (far x.1) → SpreadTo g f F by far Goes s0 t p next
    spread_by t one seen = record {
      more = more_more g f F F s0 s t (λ d h. h) old.more one;
      walked = walked_more g by p _ left next x e (λ d. Goes d → IsSeen t (far (arc g d))) old.walked (λ d h u. stays g f F s t one (far (arc g d)) (h u)) (λ u. subst (λ a. IsSeen t (far a)) spread_at.same seen);
    }

-- from s to t a place was seen by an arc x at p
module _ (g : List Arc) (f : List ℕ) (s t : Seen) (p : ℕ) (x : ℕ × Arc) (seen : IsSeen s p) where
  pub by_forth : IsAt g Start p x → Unused g f x.0 → Noted s t x.1.to x.0 → More g f (Unused g f) s t
  by_forth at u noted =
      more_forth g f (Unused g f) s t x.1.to x.0 noted at.is (ap (λ a. a.to) (sym at.same)) u (subst (IsSeen s) (sym at.on ∙ ap (λ a. a.from) at.same) seen)

  pub by_back : IsAt g End p x → 0 < get_or f x.0 0 → Noted s t x.1.from x.0 → More g f Never s t
  by_back at u noted =
      more_back g f Never s t x.1.from x.0 noted at.is (ap (λ a. a.from) (sym at.same)) u (subst (IsSeen s) (sym at.on ∙ ap (λ a. a.to) at.same) seen)

pub unused : (g : List Arc) (f : List ℕ) (by : By) (p : ℕ) (x : ℕ × Arc) → IsAt g by p x → 0 < x.1.lanes → get_or f x.0 0 ≡ 0 → Unused g f x.0
unused g f by p x at h z = record { usable = omega (arith, h, ap (λ a. a.lanes) at.same); idle = z }
