-- A pair of routes carries just the rates up to its bandwidth. Assumes nothing.
use Rattle.std.proofs.Common.{◌≡◌, ℕ, ◌*◌, ◌/◌, ◌<◌, ◌≤◌, min, Bool, true, false, eqb, ◌⊎◌, List, [], ◌∷◌, sym, refl, ap, subst, inl, inr, ⊎_elim, arith}
use Rattle.std.proofs.lemmas.Bool.{cases_Bool, eqb-true, eq-eqb, or_cases, or_left, or_right, false≢true, both_ways}
use Rattle.network.specs.Network.{Network}
use Rattle.network.specs.Routes.{uses, times}
use Rattle.network.proofs.Counts.{one_more, no_more}
use Rattle.promise.specs.declared.Mode.{Mode}
use Rattle.promise.specs.declared.Mode.TheVariants.{OnePlusOne, OneToOne}
use Rattle.promise.specs.Ledger.{Ledger, left, Rule, Carries}
use Rattle.promise.specs.Bandwidth.{InOne, Allows, Bandwidth, AllOpen, CarriesUpToBandwidth}

-- the least of a number and what a function says of each element
least : (f : ℕ → ℕ) (x : ℕ) → List ℕ → ℕ
least f x [] = x
least f x (c ∷ cs) = min (f c) (least f x cs)

least_head : (f : ℕ → ℕ) (x : ℕ) (cs : List ℕ) → least f x cs ≤ x
unfolding least
least_head f x [] = omega arith
least_head f x (c ∷ cs) = omega (arith, least_head f x cs)

least_in : (f : ℕ → ℕ) (x : ℕ) (cs : List ℕ) (c : ℕ) → uses c cs ≡ true → least f x cs ≤ f c
unfolding least
least_in f x [] c h = absurd (false≢true h)
least_in f x (d ∷ cs) c h = elim (or_cases (eqb c d) (uses c cs) h) [
  | inl e ↦ omega (arith, ap f (eqb-true c d e))
  | inr e ↦ omega (arith, least_in f x cs c e)
]

-- what is at most the number, and at most what the function says of each element, is at most the least
least_above : (f : ℕ → ℕ) (x b : ℕ) (cs : List ℕ) → b ≤ x → ((c : ℕ) → uses c cs ≡ true → b ≤ f c) → b ≤ least f x cs
unfolding least
least_above f x b [] h each = h
least_above f x b (d ∷ cs) h each =
    let here : b ≤ f d = each d (or_left (eqb d d) (uses d cs) (eq-eqb d d refl)) in
    let rest : b ≤ least f x cs = least_above f x b cs h (λ c e. each c (or_right (eqb c d) (uses c cs) e)) in
    omega arith

module _ (n : Network) (l : Ledger) (first second : List ℕ) where
  -- what a circuit allows, by whether each route uses it
  share_by : Mode → ℕ → Bool → Bool → ℕ
  share_by OnePlusOne c true true = left n l c / 2
  share_by OnePlusOne c true false = left n l c
  share_by OnePlusOne c false true = left n l c
  share_by OnePlusOne c false false = left n l c
  share_by OneToOne c x y = left n l c

  share : Mode → ℕ → ℕ
  share m c = share_by m c (uses c first) (uses c second)

  abbrev Used : ℕ → Type 0
  Used c = (uses c first ≡ true) ⊎ (uses c second ≡ true)

  abbrev BelowShares : Mode → ℕ → Type 0
  BelowShares m b = (c : ℕ) → Used c → b ≤ share m c

  share_is : (m : Mode) (c : ℕ) (x y : Bool) → uses c first ≡ x → uses c second ≡ y → share m c ≡ share_by m c x y
  unfolding share
  share_is m c x y e f = cc

  share_left : (m : Mode) (c : ℕ) → share m c ≤ left n l c
  unfolding share share_by
  share_left OnePlusOne c = elim (uses c first) as (λ x. share_by OnePlusOne c x (uses c second) ≤ left n l c) [
    | true ↦ elim (uses c second) as (λ y. share_by OnePlusOne c true y ≤ left n l c) [ true ↦ omega arith | false ↦ omega arith ]
    | false ↦ elim (uses c second) as (λ y. share_by OnePlusOne c false y ≤ left n l c) [ true ↦ omega arith | false ↦ omega arith ]
  ]
  share_left OneToOne c = omega arith

  -- a rate is below every share just where the pair allows it
  allows_from : (m : Mode) (b : ℕ) → BelowShares m b → Allows n l first second m b
  unfolding share_by
  allows_from OnePlusOne b h = λ c. (
    λ both. omega (arith, h c (inl both.0), share_is OnePlusOne c true true both.0 both.1),
    λ one.
        ⊎_elim
        (λ (p : (uses c first ≡ true) × (uses c second ≡ false)). omega (arith, h c (inl p.0), share_is OnePlusOne c true false p.0 p.1))
        (λ (p : (uses c first ≡ false) × (uses c second ≡ true)). omega (arith, h c (inr p.1), share_is OnePlusOne c false true p.0 p.1))
        one,
  )
  allows_from OneToOne b h = λ c. (
    λ both. omega (arith, h c (inl both.0), share_left OneToOne c),
    λ one.
        ⊎_elim
        (λ (p : (uses c first ≡ true) × (uses c second ≡ false)). omega (arith, h c (inl p.0), share_left OneToOne c))
        (λ (p : (uses c first ≡ false) × (uses c second ≡ true)). omega (arith, h c (inr p.1), share_left OneToOne c))
        one,
  )

  both_share : (m : Mode) (b : ℕ) → Allows n l first second m b → (c : ℕ) → uses c first ≡ true → uses c second ≡ true → b ≤ share m c
  unfolding share_by
  both_share OnePlusOne b h c e f = omega (arith, (h c).0 (e, f), share_is OnePlusOne c true true e f)
  both_share OneToOne b h c e f = omega (arith, (h c).0 (e, f), share_is OneToOne c true true e f)

  one_share : (m : Mode) (b : ℕ) → Allows n l first second m b → (c : ℕ) → InOne n l first second c → b ≤ share m c
  unfolding share_by
  one_share OnePlusOne b h c (inl p) = omega (arith, (h c).1 (inl p), share_is OnePlusOne c true false p.0 p.1)
  one_share OnePlusOne b h c (inr p) = omega (arith, (h c).1 (inr p), share_is OnePlusOne c false true p.0 p.1)
  one_share OneToOne b h c (inl p) = omega (arith, (h c).1 (inl p), share_is OneToOne c true false p.0 p.1)
  one_share OneToOne b h c (inr p) = omega (arith, (h c).1 (inr p), share_is OneToOne c false true p.0 p.1)

  shares_from : (m : Mode) (b : ℕ) → Allows n l first second m b → BelowShares m b
  unfolding share_by
  shares_from m b h c used = elim (cases_Bool (uses c first)) [
    | inl e ↦ elim (cases_Bool (uses c second)) [
      | inl f ↦ both_share m b h c e f
      | inr f ↦ one_share m b h c (inl (e, f))
    ]
    | inr e ↦ elim (cases_Bool (uses c second)) [
      | inl f ↦ one_share m b h c (inr (e, f))
      | inr f ↦ absurd (⊎_elim (λ (u : uses c first ≡ true). both_ways (uses c first) e u) (λ (u : uses c second ≡ true). both_ways (uses c second) f u) used)
    ]
  ]

  -- how often the pair uses a circuit
  some : (c : ℕ) → Used c → 0 < times c (first ∷ second ∷ [])
  some c (inl e) = omega (arith, one_more (uses c first) e)
  some c (inr e) = omega (arith, one_more (uses c second) e)

  used_some : (c : ℕ) → 0 < times c (first ∷ second ∷ []) → Used c
  used_some c h = elim (cases_Bool (uses c first)) [
    | inl e ↦ inl e
    | inr e ↦ elim (cases_Bool (uses c second)) [
      | inl f ↦ inr f
      | inr f ↦ absurd (omega (arith, h, no_more (uses c first) e, no_more (uses c second) f))
    ]
  ]

  counted_both : (c : ℕ) → uses c first ≡ true → uses c second ≡ true → times c (first ∷ second ∷ []) ≡ 2
  counted_both c e f = omega (arith, one_more (uses c first) e, one_more (uses c second) f)

  counted_one : (c : ℕ) → InOne n l first second c → times c (first ∷ second ∷ []) ≡ 1
  counted_one c (inl p) = omega (arith, one_more (uses c first) p.0, no_more (uses c second) p.1)
  counted_one c (inr p) = omega (arith, no_more (uses c first) p.0, one_more (uses c second) p.1)

  twice : (r t room : ℕ) → t ≡ 2 → t * r ≤ room → 2 * r ≤ room
  twice r t room e h = subst (λ k. k * r ≤ room) e h

  once_more : (r k t room : ℕ) → t ≡ k → k * r ≤ room → t * r ≤ room
  once_more r k t room e h = subst (λ j. j * r ≤ room) (sym e) h

  -- the same of what the pair can carry, where its circuits are open
  usable_allows : (m : Mode) (r : ℕ) → Carries n l m r (first ∷ second ∷ []) → Allows n l first second m r
  usable_allows OnePlusOne r h = λ c. (
    λ both. twice r (times c (first ∷ second ∷ [])) (left n l c) (counted_both c both.0 both.1) (h c (some c (inl both.0))).1,
    λ one. ⊎_elim (λ (p : (uses c first ≡ true) × (uses c second ≡ false)). (h c (some c (inl p.0))).0.1) (λ (p : (uses c first ≡ false) × (uses c second ≡ true)). (h c (some c (inr p.1))).0.1) one,
  )
  usable_allows OneToOne r h = λ c. (
    λ both. (h c (some c (inl both.0))).0.1,
    λ one. ⊎_elim (λ (p : (uses c first ≡ true) × (uses c second ≡ false)). (h c (some c (inl p.0))).0.1) (λ (p : (uses c first ≡ false) × (uses c second ≡ true)). (h c (some c (inr p.1))).0.1) one,
  )

  allows_usable : (m : Mode) (r : ℕ) → AllOpen n l first second → Allows n l first second m r → (c : ℕ) → Used c → r ≤ left n l c
  allows_usable m r clear h c used = omega (arith, shares_from m r h c used, share_left m c)

  allows_rule : (m : Mode) (r : ℕ) → Allows n l first second m r → (c : ℕ) → Used c → Rule m r (times c (first ∷ second ∷ [])) (left n l c)
  allows_rule OnePlusOne r h c used = elim (cases_Bool (uses c first)) [
    | inl e ↦ elim (cases_Bool (uses c second)) [
      | inl f ↦ once_more r 2 (times c (first ∷ second ∷ [])) (left n l c) (counted_both c e f) ((h c).0 (e, f))
      | inr f ↦ once_more r 1 (times c (first ∷ second ∷ [])) (left n l c) (counted_one c (inl (e, f))) (omega (arith, (h c).1 (inl (e, f))))
    ]
    | inr e ↦ elim (cases_Bool (uses c second)) [
      | inl f ↦ once_more r 1 (times c (first ∷ second ∷ [])) (left n l c) (counted_one c (inr (e, f))) (omega (arith, (h c).1 (inr (e, f))))
      | inr f ↦ absurd (⊎_elim (λ (u : uses c first ≡ true). both_ways (uses c first) e u) (λ (u : uses c second ≡ true). both_ways (uses c second) f u) used)
    ]
  ]
  allows_rule OneToOne r h c used = tt

  allows_carries : (m : Mode) (r : ℕ) → AllOpen n l first second → Allows n l first second m r → Carries n l m r (first ∷ second ∷ [])
  allows_carries m r clear h c counted =
      let used : Used c = used_some c counted in
      ((clear c used, allows_usable m r clear h c used), allows_rule m r h c used)

  -- the pair's bandwidth: the least share of its circuits, of which the first is one
  module _ (c : ℕ) (cs : List ℕ) (is : first ≡ c ∷ cs) where
    narrowest : Mode → ℕ
    narrowest m = least (share m) (least (share m) (share m c) second) first

    narrowest_below : (m : Mode) → BelowShares m (narrowest m)
    unfolding narrowest
    narrowest_below m d (inl e) = least_in (share m) (least (share m) (share m c) second) first d e
    narrowest_below m d (inr e) = omega (arith, least_head (share m) (least (share m) (share m c) second) first, least_in (share m) (share m c) second d e)

    head_used : uses c first ≡ true
    head_used = subst (λ (xs : List ℕ). uses c xs ≡ true) (sym is) (or_left (eqb c c) (uses c cs) (eq-eqb c c refl))

    narrowest_above : (m : Mode) (b : ℕ) → BelowShares m b → b ≤ narrowest m
    unfolding narrowest
    narrowest_above m b h = least_above (share m) (least (share m) (share m c) second) b first (least_above (share m) (share m c) b second (h c (inl head_used)) (λ d e. h d (inr e))) (λ d e. h d (inl e))

    narrowest_is : (m : Mode) → Bandwidth n l first second m (narrowest m)
    narrowest_is m = record {
      allowed = allows_from m (narrowest m) (narrowest_below m);
      largest = λ b' h. narrowest_above m b' (shares_from m b' h);
    }

    up_to : (m : Mode) → AllOpen n l first second → (r : ℕ) → (Carries n l m r (first ∷ second ∷ []) → r ≤ narrowest m) × (r ≤ narrowest m → Carries n l m r (first ∷ second ∷ []))
    up_to m clear r = (
      λ h. narrowest_above m r (shares_from m r (usable_allows m r h)),
      λ h. allows_carries m r clear (allows_from m r (λ d used. omega (arith, h, narrowest_below m d used))),
    )

pub carries_up_to_bandwidth : CarriesUpToBandwidth
carries_up_to_bandwidth n l m a b [] second p q = absurd (omega (arith, p.0))
carries_up_to_bandwidth n l m a b (c ∷ cs) second p q = (
  narrowest n l (c ∷ cs) second c cs refl m,
  narrowest_is n l (c ∷ cs) second c cs refl m,
  up_to n l (c ∷ cs) second c cs refl m,
)
