-- The list of all routes: it has every route, and only routes. Assumes nothing.
use Rattle.std.proofs.Common.{◌≡◌, ℕ, zero, suc, ◌+◌, ◌<◌, ◌≤◌, Bool, true, false, cond, not, ◌&&◌, ◌||◌, eqb, List, [], ◌∷◌, ◌++◌, map, length, sym, refl, subst, inl, inr, arith}
use Rattle.std.proofs.lemmas.Bool.{and_parts, and_from, or_from, or_parts, or_left, not-true, not_from_false, cases_eq, eqb-true, eq-eqb, ne_eqb, eqb-false, cond-true, cond-false}
use Rattle.network.specs.Network.{Network, circuit, Proper}
use Rattle.network.specs.Routes.{uses, Distinct, Leads, stops, Route}
use Rattle.network.proofs.Lists.{In, in_left, in_right, in_either, in_cond, of_cond, in_map, of_map}

-- the circuits below number k that leave a and do not end at a place seen, each with what goes on from its end
abbrev pub onward : Network → List ℕ → ℕ → (ℕ → List (List ℕ)) → ℕ → List (List ℕ)
onward n seen a rest zero = []
onward n seen a rest (suc k) = cond (eqb (circuit n k).from a && not (uses (circuit n k).to seen)) (map (λ r. k ∷ r) (rest (circuit n k).to)) [] ++ onward n seen a rest k

-- what leads from a to b past no place seen, in at most so many circuits
abbrev pub tails : Network → ℕ → ℕ → List ℕ → ℕ → List (List ℕ)
tails n b zero seen a = cond (eqb a b) ([] ∷ []) []
tails n b (suc k) seen a = cond (eqb a b) ([] ∷ []) [] ++ onward n seen a (λ c. tails n b k (c ∷ seen) c) (length n.circuits)

-- all routes from a to b
abbrev pub routes : Network → ℕ → ℕ → List (List ℕ)
routes n a b = onward n (a ∷ []) a (λ c. tails n b n.places (c ∷ a ∷ []) c) (length n.circuits)

-- no place of the list has been seen
abbrev Apart : List ℕ → List ℕ → Type 0
Apart seen [] = Unit {0}
Apart seen (p ∷ ps) = (uses p seen ≡ false) × Apart seen ps

apart_none : (ps : List ℕ) → Apart [] ps
apart_none [] = tt
apart_none (p ∷ ps) = (refl, apart_none ps)

apart_more : (seen : List ℕ) (q : ℕ) (ps : List ℕ) → uses q ps ≡ false → Apart seen ps → Apart (q ∷ seen) ps
apart_more seen q [] h a = tt
apart_more seen q (p ∷ ps) h a =
    let r = or_parts (eqb q p) (uses q ps) h in
    (or_from (eqb p q) (uses p seen) (ne_eqb p q (λ e. eqb-false q p r.0 (sym e))) a.0, apart_more seen q ps r.1 a.1)

apart_less : (seen : List ℕ) (q : ℕ) (ps : List ℕ) → Apart (q ∷ seen) ps → (uses q ps ≡ false) × Apart seen ps
apart_less seen q [] a = (refl, tt)
apart_less seen q (p ∷ ps) a =
    let r = or_parts (eqb p q) (uses p seen) a.0 in let s = apart_less seen q ps a.1 in
    (or_from (eqb q p) (uses q ps) (ne_eqb q p (λ e. eqb-false p q r.0 (sym e))) s.0, (r.1, s.1))

-- how many of the places below p have not been seen
abbrev unseen : ℕ → List ℕ → ℕ
unseen zero seen = 0
unseen (suc p) seen = cond (uses p seen) 0 1 + unseen p seen

one_most : (b : Bool) → cond b 0 1 ≤ 1
one_most true = omega arith
one_most false = omega arith

one_falls : (x y : Bool) → cond (x || y) 0 1 ≤ cond y 0 1
one_falls true true = omega arith
one_falls true false = omega arith
one_falls false true = omega arith
one_falls false false = omega arith

unseen_most : (p : ℕ) (seen : List ℕ) → unseen p seen ≤ p
unseen_most zero seen = omega arith
unseen_most (suc p) seen = omega (arith, unseen_most p seen, one_most (uses p seen))

unseen_less : (p q : ℕ) (seen : List ℕ) → unseen p (q ∷ seen) ≤ unseen p seen
unseen_less zero q seen = omega arith
unseen_less (suc p) q seen = omega (arith, unseen_less p q seen, one_falls (eqb p q) (uses p seen))

unseen_falls : (p q : ℕ) (seen : List ℕ) → q < p → uses q seen ≡ false → unseen p (q ∷ seen) < unseen p seen
unseen_falls zero q seen h u = omega arith
unseen_falls (suc p) q seen h u = elim (cases_eq p q) [
  | inl e ↦
      let x : cond {A = ℕ} (uses p seen) 0 1 ≡ 1 = cond-false (uses p seen) 0 1 (subst (λ z. uses z seen ≡ false) (sym e) u) in
      let y : cond {A = ℕ} (eqb p q || uses p seen) 0 1 ≡ 0 = cond-true (eqb p q || uses p seen) 0 1 (or_left (eqb p q) (uses p seen) (eq-eqb p q e)) in
      omega (arith, unseen_less p q seen)
  | inr e ↦
      let k : q < p = omega arith in
      omega (arith, unseen_falls p q seen k u, one_falls (eqb p q) (uses p seen))
]

module _ (n : Network) (seen : List ℕ) (a : ℕ) (rest : ℕ → List (List ℕ)) where
  abbrev fits? : ℕ → Bool
  fits? c = eqb (circuit n c).from a && not (uses (circuit n c).to seen)

  pub onward_has : (k c : ℕ) (r : List ℕ) → c < k → (circuit n c).from ≡ a → uses (circuit n c).to seen ≡ false → In r (rest (circuit n c).to) → In (c ∷ r) (onward n seen a rest k)
  onward_has zero c r h f u i = absurd (omega arith)
  onward_has (suc k) c r h f u i = elim (cases_eq c k) [
    | inl e ↦ subst (λ (z : ℕ). In (c ∷ r) (cond (fits? z) (map (λ t. z ∷ t) (rest (circuit n z).to)) [] ++ onward n seen a rest k)) e
        (in_left (cond (fits? c) (map (λ t. c ∷ t) (rest (circuit n c).to)) []) (onward n seen a rest k) (c ∷ r)
        (in_cond (fits? c) (map (λ t. c ∷ t) (rest (circuit n c).to)) (c ∷ r)
        (and_from (eqb (circuit n c).from a) (not (uses (circuit n c).to seen)) (eq-eqb (circuit n c).from a f) (not_from_false (uses (circuit n c).to seen) u))
        (in_map (λ t. c ∷ t) (rest (circuit n c).to) r i)))
    | inr e ↦ in_right (cond (fits? k) (map (λ t. k ∷ t) (rest (circuit n k).to)) []) (onward n seen a rest k) (c ∷ r)
        (onward_has k c r (omega arith) f u i)
  ]

  -- what stands in the list: a circuit, and what goes on from its end
  pub record Onward (k : ℕ) (r : List ℕ) : Type 0 where
    pub head : ℕ
    pub tail : List ℕ
    pub below : head < k
    pub leaves : (circuit n head).from ≡ a
    pub unseen_end : uses (circuit n head).to seen ≡ false
    pub goes_on : In tail (rest (circuit n head).to)
    pub is : r ≡ head ∷ tail

  pub onward_only : (k : ℕ) (r : List ℕ) → In r (onward n seen a rest k) → Onward k r
  onward_only zero r i = absurd i
  onward_only (suc k) r i = elim (in_either (cond (fits? k) (map (λ t. k ∷ t) (rest (circuit n k).to)) []) (onward n seen a rest k) r i) [
    | inl j ↦
        let x = of_cond (fits? k) (map (λ t. k ∷ t) (rest (circuit n k).to)) r j in
        let y = and_parts (eqb (circuit n k).from a) (not (uses (circuit n k).to seen)) x.0 in
        let z = of_map (λ t. k ∷ t) (rest (circuit n k).to) r x.1 in
        record { head = k; tail = z.0; below = omega arith; leaves = eqb-true (circuit n k).from a y.0; unseen_end = not-true (uses (circuit n k).to seen) y.1; goes_on = z.1; is = z.2 }
    | inr j ↦
        let x = onward_only k r j in
        let h : x.head < suc k = omega (arith, x.below) in
        record { head = x.head; tail = x.tail; below = h; leaves = x.leaves; unseen_end = x.unseen_end; goes_on = x.goes_on; is = x.is }
  ]

module _ (n : Network) (b : ℕ) where
  abbrev here : ℕ → List (List ℕ)
  here a = cond (eqb a b) ([] ∷ []) []

  here_has : (a : ℕ) → a ≡ b → In [] (here a)
  here_has a e = in_cond (eqb a b) ([] ∷ []) [] (eq-eqb a b e) (inl refl)

  tails_has : Proper n → (cs : List ℕ) (k : ℕ) (seen : List ℕ) (a : ℕ) → unseen n.places seen ≤ k → Leads n a cs b → Distinct (stops n cs) → Apart seen (stops n cs) → In cs (tails n b k seen a)
  tails_has g [] zero seen a m p d u = here_has a p
  tails_has g [] (suc k) seen a m p d u = in_left (here a) (onward n seen a (λ c. tails n b k (c ∷ seen) c) (length n.circuits)) [] (here_has a p)
  tails_has g (c ∷ cs) zero seen a m p d u =
      absurd (omega (arith, unseen_falls n.places (circuit n c).to seen (g.each c p.0).to_place u.0))
  tails_has g (c ∷ cs) (suc k) seen a m p d u =
      in_right (here a) (onward n seen a (λ c. tails n b k (c ∷ seen) c) (length n.circuits)) (c ∷ cs)
      (onward_has n seen a (λ c. tails n b k (c ∷ seen) c) (length n.circuits) c cs p.0 p.1 u.0
      (tails_has g cs k ((circuit n c).to ∷ seen) (circuit n c).to
      (omega (arith, unseen_falls n.places (circuit n c).to seen (g.each c p.0).to_place u.0))
      p.2 d.1 (apart_more seen (circuit n c).to (stops n cs) d.0 u.1)))

  Tail : List ℕ → ℕ → List ℕ → Type 0
  Tail seen a cs = Leads n a cs b × Distinct (stops n cs) × Apart seen (stops n cs)

  tail_more : (seen : List ℕ) (a k : ℕ) (rest : ℕ → List (List ℕ)) → k ≡ length n.circuits → ((c : ℕ) (t : List ℕ) → In t (rest c) → Tail (c ∷ seen) c t) → (cs : List ℕ) → Onward n seen a rest k cs → Tail seen a cs
  unfolding Tail
  tail_more seen a k rest e f cs o =
      let h = o.head in let t = f (circuit n h).to o.tail o.goes_on in
      let s = apart_less seen (circuit n h).to (stops n o.tail) t.2 in
      subst (λ (xs : List ℕ). Leads n a xs b × Distinct (stops n xs) × Apart seen (stops n xs)) (sym o.is)
      ((subst (λ z. h < z) e o.below, o.leaves, t.0), (s.0, t.1), (o.unseen_end, s.1))

  here_only : (seen : List ℕ) (a : ℕ) (cs : List ℕ) → In cs (here a) → Tail seen a cs
  unfolding Tail
  here_only seen a cs i =
      let x = of_cond (eqb a b) ([] ∷ []) cs i in
      elim x.1 [
        | inl e ↦ subst (λ (xs : List ℕ). Leads n a xs b × Distinct (stops n xs) × Apart seen (stops n xs)) (sym e) (eqb-true a b x.0, tt, tt)
        | inr j ↦ absurd j
      ]

  tails_only : (k : ℕ) (seen : List ℕ) (a : ℕ) (cs : List ℕ) → In cs (tails n b k seen a) → Tail seen a cs
  tails_only zero seen a cs i = here_only seen a cs i
  tails_only (suc k) seen a cs i = elim (in_either (here a) (onward n seen a (λ c. tails n b k (c ∷ seen) c) (length n.circuits)) cs i) [
    | inl j ↦ here_only seen a cs j
    | inr j ↦ tail_more seen a (length n.circuits) (λ c. tails n b k (c ∷ seen) c) refl (λ c t. tails_only k (c ∷ seen) c t) cs
        (onward_only n seen a (λ c. tails n b k (c ∷ seen) c) (length n.circuits) cs j)
  ]

-- every route is in the list
pub routes_has : (n : Network) → Proper n → (a b : ℕ) (cs : List ℕ) → Route n a b cs → In cs (routes n a b)
routes_has n g a b [] r = absurd (omega (arith, r.0))
routes_has n g a b (c ∷ cs) r =
    let p = r.1 in let d = r.2 in
    let u = apart_more [] a (stops n (c ∷ cs)) d.0 (apart_none (stops n (c ∷ cs))) in
    onward_has n (a ∷ []) a (λ z. tails n b n.places (z ∷ a ∷ []) z) (length n.circuits) c cs p.0 p.1 u.0
    (tails_has n b g cs n.places ((circuit n c).to ∷ a ∷ []) (circuit n c).to (unseen_most n.places ((circuit n c).to ∷ a ∷ []))
    p.2 d.1.1 (apart_more (a ∷ []) (circuit n c).to (stops n cs) d.1.0 u.1))

-- the list has only routes
pub routes_only : (n : Network) (a b : ℕ) (cs : List ℕ) → In cs (routes n a b) → Route n a b cs
unfolding Tail
routes_only n a b cs i =
    let rest : ℕ → List (List ℕ) = λ z. tails n b n.places (z ∷ a ∷ []) z in
    let o = onward_only n (a ∷ []) a rest (length n.circuits) cs i in
    let t = tail_more n b (a ∷ []) a (length n.circuits) rest refl (λ c x. tails_only n b n.places (c ∷ a ∷ []) c x) cs o in
    let some_circuit : 0 < length cs = subst (λ (xs : List ℕ). 0 < length xs) (sym o.is) (omega arith) in
    (some_circuit, t.0, ((apart_less [] a (stops n cs) t.2).0, t.1))
