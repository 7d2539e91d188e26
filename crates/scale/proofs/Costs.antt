-- A set that shares no more costs no more, on every lawful scale and in every proper network. Assumes nothing.
use Rattle.std.proofs.Common.{◌≡◌, ℕ, ◌+◌, ◌<◌, ◌≤◌, Bool, true, false, cond, List, [], ◌∷◌, length, drop, sym, refl, ap, ◌∙◌, subst, ⊎_elim}
use Rattle.std.proofs.lemmas.List.{at_drop_more, at_drop_all}
use Rattle.std.proofs.lemmas.Bool.{both_ways}
use Rattle.network.specs.declared.register.Circuit.{Circuit}
use Rattle.network.specs.Network.{Network, circuit, no_circuit, Proper}
use Rattle.network.specs.Routes.{Each, shared}
use Rattle.scale.specs.Measure.{Measure, AtMost, Lawful, joined, shared_cost}
use Rattle.network.proofs.Lists.{at_each, each_drop}

-- the costs are those that a register can have
abbrev pub Low : Circuit → Type 0
Low c = c.cost ≤ 1000000

pub low : (n : Network) → Proper n → Each Low n.circuits
low n proper = at_each Low n.circuits no_circuit (λ c h. (proper.each c h).most_cost)

module _ {V : Type 0} (s : Measure V) (lawful : Lawful s) where
  pub at_most_same : (x : V) → s.value x → AtMost s x x
  at_most_same x v = ⊎_elim (λ h. h) (λ h. h) (lawful.compares x x v v)

  pub join_zero : (x : V) → s.value x → s.join x s.zero ≡ x
  join_zero x v = lawful.commutative x s.zero v lawful.zero_value ∙ lawful.neutral x v

  -- a value is at most what joining another makes of it
  pub at_most_joined : (w x : V) → s.value w → s.value x → AtMost s x (s.join w x)
  at_most_joined w x u v =
      let zero = s.zero in
      let kept : AtMost s (s.join x zero) (s.join x w) = lawful.keeps zero w x lawful.zero_value u v (lawful.least w u) in
      let turned : s.join x w ≡ s.join w x = lawful.commutative x w v u in
      subst (λ y. AtMost s x y) turned (subst (λ y. AtMost s y (s.join x w)) (join_zero x v) kept)

  pub joined_value : (rs : List (List ℕ)) (i : ℕ) (cs : List Circuit) → Each Low cs → s.value (joined s rs i cs)
  joined_value rs i [] p = lawful.zero_value
  joined_value rs i (c ∷ cs) p =
      let rest = joined_value rs (i + 1) cs p.1 in
      elim (shared i rs) as (λ t. s.value (cond t (s.join (s.weight c.cost) (joined s rs (i + 1) cs)) (joined s rs (i + 1) cs))) [
        | true ↦ lawful.join_value (s.weight c.cost) (joined s rs (i + 1) cs) (lawful.weight_value c.cost p.0) rest
        | false ↦ rest
      ]

  pub cost_value : (n : Network) → Proper n → (rs : List (List ℕ)) → s.value (shared_cost s n rs)
  cost_value n proper rs = joined_value rs 0 n.circuits (low n proper)

  -- one circuit more, that both share, or the second alone, or neither
  step : (w x y : V) → s.value w → s.value x → s.value y → AtMost s x y → (t t' : Bool) → (t ≡ true → t' ≡ true) → AtMost s (cond t (s.join w x) x) (cond t' (s.join w y) y)
  step w x y u v v' h true true k = lawful.keeps x y w v v' u h
  step w x y u v v' h true false k = absurd (both_ways false refl (k refl))
  step w x y u v v' h false true k = lawful.transitive x y (s.join w y) v v' (lawful.join_value w y u v') h (at_most_joined w y u v')
  step w x y u v v' h false false k = h

  joined_cheaper : (rs rs' : List (List ℕ)) → ((c : ℕ) → shared c rs ≡ true → shared c rs' ≡ true) → (i : ℕ) (cs : List Circuit) → Each Low cs → AtMost s (joined s rs i cs) (joined s rs' i cs)
  joined_cheaper rs rs' k i [] p = at_most_same s.zero lawful.zero_value
  joined_cheaper rs rs' k i (c ∷ cs) p =
      step (s.weight c.cost) (joined s rs (i + 1) cs) (joined s rs' (i + 1) cs) (lawful.weight_value c.cost p.0) (joined_value rs (i + 1) cs p.1) (joined_value rs' (i + 1) cs p.1)
      (joined_cheaper rs rs' k (i + 1) cs p.1) (shared i rs) (shared i rs') (k i)

  pub cheaper : (n : Network) → Proper n → (rs rs' : List (List ℕ)) → ((c : ℕ) → shared c rs ≡ true → shared c rs' ≡ true) → AtMost s (shared_cost s n rs) (shared_cost s n rs')
  cheaper n proper rs rs' k = joined_cheaper rs rs' k 0 n.circuits (low n proper)

  -- a loop from the first circuit on: what it has so far, joined with the rest, is the shared cost
  abbrev pub SoFar : Network → List (List ℕ) → ℕ → V → Type 0
  SoFar n rs i x = s.value x × (s.join x (joined s rs i (drop i n.circuits)) ≡ shared_cost s n rs)

  pub cost_none : (n : Network) → Proper n → (rs : List (List ℕ)) → SoFar n rs 0 s.zero
  cost_none n proper rs = (lawful.zero_value, lawful.neutral (shared_cost s n rs) (cost_value n proper rs))

  pub cost_more : (n : Network) → Proper n → (rs : List (List ℕ)) (i : ℕ) (x : V) → i < length n.circuits → SoFar n rs i x → SoFar n rs (i + 1) (cond (shared i rs) (s.join x (s.weight (circuit n i).cost)) x)
  cost_more n proper rs i x h far =
      let w = s.weight (circuit n i).cost in
      let u = lawful.weight_value (circuit n i).cost (proper.each i h).most_cost in
      let rest = joined s rs (i + 1) (drop (i + 1) n.circuits) in
      let v = joined_value rs (i + 1) (drop (i + 1) n.circuits) (each_drop Low n.circuits (i + 1) (low n proper)) in
      let all = shared_cost s n rs in
      let e : s.join x (cond (shared i rs) (s.join w rest) rest) ≡ all = ap (s.join x) (sym (at_drop_more (joined s rs i) n.circuits i no_circuit h)) ∙ far.1 in
      elim (shared i rs) as (λ t. s.join x (cond t (s.join w rest) rest) ≡ all → s.value (cond t (s.join x w) x) × (s.join (cond t (s.join x w) x) rest ≡ all)) [
        | true ↦ λ f. (lawful.join_value x w far.0 u, lawful.associative x w rest far.0 u v ∙ f)
        | false ↦ λ f. (far.0, f)
      ] e

  pub cost_all : (n : Network) (rs : List (List ℕ)) (i : ℕ) (x : V) → length n.circuits ≤ i → SoFar n rs i x → x ≡ shared_cost s n rs
  cost_all n rs i x h far =
      sym (join_zero x far.0) ∙ (ap (s.join x) (sym (at_drop_all (joined s rs i) n.circuits i h)) ∙ far.1)
