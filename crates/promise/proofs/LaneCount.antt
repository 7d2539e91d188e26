-- Every circuit has one number of lanes, and what a program tests to find it. Assumes nothing.
use Rattle.std.proofs.Common.{◌≡◌, ℕ, ◌*◌, ◌<◌, ◌≤◌, ◌⊎◌, List, [], ◌∷◌, sym, refl, ◌∙◌, inl, inr, ⊎_elim, arith}
use Rattle.std.proofs.lemmas.Bool.{cases_lt, cases_eq}
use Rattle.network.specs.Network.{Network}
use Rattle.network.specs.Routes.{Each}
use Rattle.promise.specs.declared.Mode.{Mode}
use Rattle.promise.specs.declared.Mode.TheVariants.{OnePlusOne, OneToOne}
use Rattle.promise.specs.Ledger.{Notice, Ledger, left, Open, Usable}
use Rattle.promise.specs.Lanes.{Narrow, Lane}

module _ (n : Network) (l : Ledger) (r c : ℕ) where
  pub lane_closed : (m : Mode) → (Open l c → ⊥) → Lane n l m r c 0
  lane_closed m h = inl (refl, λ u. h u.0)

  pub lane_short : (m : Mode) → left n l c < r → Lane n l m r c 0
  lane_short m h = inl (refl, λ u. omega (arith, h, u.1))

  pub lane_one : Open l c → r ≤ left n l c → left n l c < 2 * r → Lane n l OnePlusOne r c 1
  lane_one free h tight = inr (inl (refl, (free, h), tight))

  pub lane_two : Open l c → 2 * r ≤ left n l c → Lane n l OnePlusOne r c 2
  lane_two free h = inr (inr (refl, (free, omega (arith, h)), λ tight. omega (arith, h, tight)))

  pub lane_both : Open l c → r ≤ left n l c → Lane n l OneToOne r c 2
  lane_both free h = inr (inr (refl, (free, h), λ none. none))

  pub open_or_not : (xs : List Notice) → Each (λ (x : Notice). x.circuit ≡ c → ⊥) xs ⊎ (Each (λ (x : Notice). x.circuit ≡ c → ⊥) xs → ⊥)
  open_or_not [] = inl tt
  open_or_not (x ∷ xs) =
      ⊎_elim
      (λ e. inr (λ all. all.0 e))
      (λ ne. ⊎_elim (λ all. inl (ne, all)) (λ none. inr (λ all. none all.1)) (open_or_not xs))
      (cases_eq x.circuit c)

  -- there is one
  open_lane : (m : Mode) → Open l c → r ≤ left n l c → (k : ℕ) × Lane n l m r c k
  open_lane OnePlusOne free h = ⊎_elim (λ tight. (1, lane_one free h tight)) (λ wide. (2, lane_two free wide)) (cases_lt (left n l c) (2 * r))
  open_lane OneToOne free h = (2, lane_both free h)

  pub some_lane : (m : Mode) → (k : ℕ) × Lane n l m r c k
  some_lane m =
      ⊎_elim
      (λ free. ⊎_elim (λ short. (0, lane_short m short)) (λ h. open_lane m free h) (cases_lt (left n l c) r))
      (λ shut. (0, lane_closed m shut))
      (open_or_not l.notices)

  -- and no other
  pub same_lane : (m : Mode) (k k' : ℕ) → Lane n l m r c k → Lane n l m r c k' → k ≡ k'
  same_lane m k k' p q =
      ⊎_elim
      (λ (x : (k ≡ 0) × (Usable n l r c → ⊥)).
      ⊎_elim
      (λ (y : (k' ≡ 0) × (Usable n l r c → ⊥)). x.0 ∙ sym y.0)
      (λ w. ⊎_elim (λ y. absurd (x.1 y.1)) (λ y. absurd (x.1 y.1)) w)
      q)
      (λ w.
      ⊎_elim
      (λ (x : (k ≡ 1) × Usable n l r c × Narrow m r (left n l c)).
      ⊎_elim
      (λ (y : (k' ≡ 0) × (Usable n l r c → ⊥)). absurd (y.1 x.1))
      (λ z. ⊎_elim (λ y. x.0 ∙ sym y.0) (λ y. absurd (y.2 x.2)) z)
      q)
      (λ (x : (k ≡ 2) × Usable n l r c × (Narrow m r (left n l c) → ⊥)).
      ⊎_elim
      (λ (y : (k' ≡ 0) × (Usable n l r c → ⊥)). absurd (y.1 x.1))
      (λ z. ⊎_elim (λ y. absurd (x.2 y.2)) (λ y. x.0 ∙ sym y.0) z)
      q)
      w)
      p
