-- The loop that adds up what two routes share, by the marks of the circuits that each uses. Assumes nothing.
use Rattle.std.proofs.Common.{◌≡◌, ℕ, ◌+◌, ◌<◌, Bool, true, false, cond, ◌&&◌, List, [], ◌∷◌, length, get_or, drop, sym, refl, ap, ◌∙◌, subst}
use Rattle.network.specs.declared.register.Circuit.{Circuit}
use Rattle.network.specs.Network.{Network, Proper, circuit}
use Rattle.network.specs.Routes.{uses, shared}
use Rattle.scale.specs.Measure.{Measure, Lawful}
use Rattle.scale.proofs.Costs.{SoFar, cost_more}
use Rattle.plan.proofs.Circuits.{comes_within, comes_low, comes_circuit, comes_rest}

both_shared : (p q : Bool) → p && (q && true) ≡ p && q
both_shared true true = refl
both_shared true false = refl
both_shared false q = refl

module _ {V : Type 0} (s : Measure V) (lawful : Lawful s) (n : Network) (proper : Proper n) (first second : List ℕ) where
  abbrev pair : List (List ℕ)
  pair = first ∷ second ∷ []

  -- one circuit more, by the marks of the two routes
  pub cost_marked : (i : ℕ) (x : V) → i < length n.circuits → (p q t : Bool) → p ≡ uses i first → q ≡ uses i second → p && q ≡ t → SoFar s lawful n pair i x → SoFar s lawful n pair (i + 1) (cond t (s.join x (s.weight (circuit n i).cost)) x)
  cost_marked i x on p q t by_first by_second both far =
      let is : shared i pair ≡ t = both_shared (uses i first) (uses i second) ∙ (ap (λ u. u && uses i second) (sym by_first) ∙ (ap (λ u. p && u) (sym by_second) ∙ both)) in
      subst (λ u. SoFar s lawful n pair (i + 1) (cond u (s.join x (s.weight (circuit n i).cost)) x)) is (cost_more s lawful n proper pair i x on far)

  -- the circuit that comes next, by its marks: it is counted, and those after it are still to come
  pub cost_next : (marks_first marks_second : List Bool) → ((c : ℕ) → c < 384 → get_or marks_first c false ≡ uses c first) → ((c : ℕ) → c < 384 → get_or marks_second c false ≡ uses c second)
      → (front rest : List Circuit) (count i next : ℕ) (y : Circuit) (x : V) (t : Bool) → front ≡ drop count n.circuits → front ≡ y ∷ rest → i ≡ count → next ≡ count + 1
      → get_or marks_first i false && get_or marks_second i false ≡ t → SoFar s lawful n pair count x → (rest ≡ drop next n.circuits) × SoFar s lawful n pair next (cond t (s.join x (s.weight y.cost)) x)
  cost_next marks_first marks_second by_first by_second front rest count i next y x t from comes is up both far =
      let on : i < length n.circuits = comes_within n front rest count i y from comes is in
      let low = comes_low n front rest count i y from comes is proper in
      rw (up, ← is, comes_circuit n front rest count i y from comes is) (comes_rest n front rest count i y from comes is, cost_marked i x on _ _ t (by_first i low) (by_second i low) both (rw is far))
