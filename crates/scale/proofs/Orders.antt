-- In whatever order the weights of the shared circuits are joined, they give the shared cost. Assumes nothing.
use Rattle.std.proofs.Common.{◌≡◌, ℕ, zero, suc, ◌+◌, ◌<◌, ◌≤◌, true, false, cond, ◌&&◌, ◌||◌, eqb, List, [], ◌∷◌, length, get_or, sym, refl, ap, ◌∙◌, subst, inl, inr, arith}
use Rattle.std.proofs.lemmas.Bool.{both_ways, cases_Bool, cond-true, cond-false, eq-eqb, ne_eqb, or_left, or_right}
use Rattle.network.specs.declared.register.Circuit.{Circuit}
use Rattle.network.specs.Network.{Network, circuit, no_circuit, Proper}
use Rattle.network.specs.Routes.{Each, uses, shared, Distinct}
use Rattle.network.proofs.Lists.{each_at}
use Rattle.scale.specs.Measure.{Measure, Lawful, joined}
use Rattle.scale.specs.Shared.{SharedOnce, joined_over, OrderDoesNotMatter}
use Rattle.scale.proofs.Costs.{Low, low, join_zero, joined_value}

-- a list of circuits, taken for a set of one route, shares just its own members
same_shared : (n : Network) (rs : List (List ℕ)) (cs : List ℕ) → SharedOnce n rs cs → (c : ℕ) → c < length n.circuits → shared c (cs ∷ []) ≡ shared c rs
same_shared n rs cs once c h = elim (cases_Bool (uses c cs)) [
  | inl e ↦ ap (λ t. t && true) e ∙ sym (once.only c e).1
  | inr e ↦ ap (λ t. t && true) e ∙ elim (cases_Bool (shared c rs)) [ inl f ↦ absurd (both_ways (uses c cs) e (once.all c h f)) | inr f ↦ sym f ]
]

-- another number in front changes nothing for the rest
other_shared : (x : ℕ) (cs : List ℕ) (c : ℕ) → (c ≡ x → ⊥) → shared c ((x ∷ cs) ∷ []) ≡ shared c (cs ∷ [])
other_shared x cs c apart = ap (λ t. (t || uses c cs) && true) (ne_eqb c x apart)

module _ {V : Type 0} (s : Measure V) (lawful : Lawful s) where
  -- the cost hangs on nothing but which of the circuits are shared
  alike : (rs rs' : List (List ℕ)) (i : ℕ) (ds : List Circuit) → ((c : ℕ) → i ≤ c → c < i + length ds → shared c rs ≡ shared c rs') → joined s rs i ds ≡ joined s rs' i ds
  alike rs rs' i [] h = refl
  alike rs rs' i (d ∷ ds) h =
      let here = h i (omega arith) (omega arith) in
      let rest = alike rs rs' (i + 1) ds (λ c a b. h c (omega arith) (omega arith)) in
      λ j. cond (here j) (s.join (s.weight d.cost) (rest j)) (rest j)

  -- no circuits, no cost
  none : (i : ℕ) (ds : List Circuit) → joined s ([] ∷ []) i ds ≡ s.zero
  none i [] = refl
  none i (d ∷ ds) = none (i + 1) ds

  swap : (x y z : V) → s.value x → s.value y → s.value z → s.join x (s.join y z) ≡ s.join y (s.join x z)
  swap x y z u v w = sym (lawful.associative x y z u v w) ∙ (ap (λ t. s.join t z) (lawful.commutative x y u v) ∙ lawful.associative y x z v u w)

  -- the weight of one circuit more comes out in front
  one_more : (x : ℕ) (cs : List ℕ) → uses x cs ≡ false → (i k : ℕ) (ds : List Circuit) → Each Low ds → x ≡ i + k → k < length ds → joined s ((x ∷ cs) ∷ []) i ds ≡ s.join (s.weight (get_or ds k no_circuit).cost) (joined s (cs ∷ []) i ds)
  one_more x cs new i k [] p e h = absurd (omega (arith, h))
  one_more x cs new i zero (d ∷ ds) p e h =
      let w = s.weight d.cost in
      let more = joined s ((x ∷ cs) ∷ []) (i + 1) ds in
      let rest = joined s (cs ∷ []) (i + 1) ds in
      let now : shared i ((x ∷ cs) ∷ []) ≡ true = ap (λ t. (t || uses i cs) && true) (eq-eqb i x (omega arith)) in
      let before : shared i (cs ∷ []) ≡ false = ap (λ t. t && true) (subst (λ y. uses y cs ≡ false) (omega arith) new) in
      let same : more ≡ rest = alike ((x ∷ cs) ∷ []) (cs ∷ []) (i + 1) ds (λ c a b. other_shared x cs c (λ q. omega arith)) in
      cond-true (shared i ((x ∷ cs) ∷ [])) (s.join w more) more now ∙ ap (s.join w) (same ∙ sym (cond-false (shared i (cs ∷ [])) (s.join w rest) rest before))
  one_more x cs new i (suc k) (d ∷ ds) p e h =
      let w = s.weight d.cost in
      let out = s.weight (get_or ds k no_circuit).cost in
      let rest = joined s (cs ∷ []) (i + 1) ds in
      let here = other_shared x cs i (λ q. omega arith) in
      let later = one_more x cs new (i + 1) k ds p.1 (omega arith) (omega arith) in
      let low_out = lawful.weight_value (get_or ds k no_circuit).cost (each_at Low ds k no_circuit (omega arith) p.1) in
      let forth : cond (shared i ((x ∷ cs) ∷ [])) (s.join w (joined s ((x ∷ cs) ∷ []) (i + 1) ds)) (joined s ((x ∷ cs) ∷ []) (i + 1) ds) ≡ cond (shared i (cs ∷ [])) (s.join w (s.join out rest)) (s.join out rest) =
      λ j. cond (here j) (s.join w (later j)) (later j) in
      forth ∙ elim (shared i (cs ∷ [])) as (λ t. cond t (s.join w (s.join out rest)) (s.join out rest) ≡ s.join out (cond t (s.join w rest) rest)) [
        | true ↦ swap w out rest (lawful.weight_value d.cost p.0) low_out (joined_value s lawful (cs ∷ []) (i + 1) ds p.1)
        | false ↦ refl
      ]

  in_order : (n : Network) → Proper n → (x : V) → s.value x → (cs : List ℕ) → Distinct cs → ((c : ℕ) → uses c cs ≡ true → c < length n.circuits) → joined_over s n x cs ≡ s.join x (joined s (cs ∷ []) 0 n.circuits)
  in_order n proper x v [] d h = sym (ap (s.join x) (none 0 n.circuits) ∙ join_zero s lawful x v)
  in_order n proper x v (c ∷ cs) d h =
      let w = s.weight (circuit n c).cost in
      let rest = joined s (cs ∷ []) 0 n.circuits in
      let inside = h c (or_left (eqb c c) (uses c cs) (eq-eqb c c refl)) in
      let u = lawful.weight_value (circuit n c).cost (proper.each c inside).most_cost in
      let on = in_order n proper (s.join x w) (lawful.join_value x w v u) cs d.1 (λ y q. h y (or_right (eqb y c) (uses y cs) q)) in
      let first = one_more c cs d.0 0 c n.circuits (low n proper) (omega arith) inside in
      on ∙ (lawful.associative x w rest v u (joined_value s lawful (cs ∷ []) 0 n.circuits (low n proper)) ∙ ap (s.join x) (sym first))

  pub any_order : OrderDoesNotMatter s
  any_order n proper rs cs once =
      let own = joined s (cs ∷ []) 0 n.circuits in
      in_order n proper s.zero lawful.zero_value cs once.once (λ c q. (once.only c q).0) ∙
      (lawful.neutral own (joined_value s lawful (cs ∷ []) 0 n.circuits (low n proper)) ∙ alike (cs ∷ []) rs 0 n.circuits (λ c a b. same_shared n rs cs once c (omega arith)))
