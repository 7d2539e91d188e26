-- Records that go by a number: which number stands in a list, and what a look-up, an addition and a strike come to. Assumes nothing.
use Rattle.std.proofs.Common.{◌≡◌, ℕ, zero, suc, ◌<◌, eqb, List, [], ◌∷◌, ◌++◌, map, length, get_or, Some, None, vec_items, vec_len, Option, Vec, sym, refl, ap, ◌∙◌, subst, inl, inr, arith, MatchOption}
use Rattle.std.specs.declared.alloc.Global.{Global}
use Rattle.std.specs.List.{remove}
use Rattle.std.proofs.lemmas.List.{get_or-map, length-map}
use Rattle.std.proofs.lemmas.Bool.{cond-true, cond-false, eq-eqb, ne_eqb}
use Rattle.promise.specs.Promise.{Stands, struck}
use Rattle.tables.specs.Standing.{Apart}

module _ {A : Type 0} (number : A → ℕ) where
  pub stands_at : (xs : List A) (i : ℕ) (d : A) (k : ℕ) → i < length xs → number (get_or xs i d) ≡ k → Stands number k xs
  stands_at [] i d k h e = absurd (omega arith)
  stands_at (x ∷ xs) zero d k h e = inl e
  stands_at (x ∷ xs) (suc i) d k h e = inr (stands_at xs i d k (omega arith) e)

  stands_push : (xs : List A) (x : A) (k : ℕ) → (Stands number k xs → ⊥) → (number x ≡ k → ⊥) → Stands number k (xs ++ x ∷ []) → ⊥
  stands_push [] x k none ne (inl e) = ne e
  stands_push [] x k none ne (inr s) = s
  stands_push (y ∷ ys) x k none ne (inl e) = none (inl e)
  stands_push (y ∷ ys) x k none ne (inr s) = stands_push ys x k (λ t. none (inr t)) ne s

  pub apart_push : (xs : List A) (x : A) → Apart number xs → (Stands number (number x) xs → ⊥) → Apart number (xs ++ x ∷ [])
  apart_push [] x apart none = (λ s. s, tt)
  apart_push (y ∷ ys) x (here, later) none =
      (stands_push ys x (number y) here (λ e. none (inl (sym e))), apart_push ys x later (λ s. none (inr s)))

  stands_removed : (xs : List A) (i k : ℕ) → Stands number k (remove xs i) → Stands number k xs
  stands_removed [] zero k s = s
  stands_removed [] (suc i) k s = s
  stands_removed (x ∷ xs) zero k s = inr s
  stands_removed (x ∷ xs) (suc i) k (inl e) = inl e
  stands_removed (x ∷ xs) (suc i) k (inr s) = inr (stands_removed xs i k s)

  pub apart_removed : (xs : List A) (i : ℕ) → Apart number xs → Apart number (remove xs i)
  apart_removed [] zero apart = tt
  apart_removed [] (suc i) apart = tt
  apart_removed (x ∷ xs) zero (here, later) = later
  apart_removed (x ∷ xs) (suc i) (here, later) = (λ s. here (stands_removed xs i (number x) s), apart_removed xs i later)

  struck_none : (xs : List A) (k : ℕ) → (Stands number k xs → ⊥) → struck number k xs ≡ xs
  struck_none [] k none = refl
  struck_none (x ∷ xs) k none =
      cond-false (eqb (number x) k) (struck number k xs) (x ∷ struck number k xs) (ne_eqb (number x) k (λ e. none (inl e)))
      ∙ ap (λ ys. x ∷ ys) (struck_none xs k (λ s. none (inr s)))

  -- where no number stands twice, to strike out a record's number is to take that record out
  pub struck_at : (xs : List A) (i : ℕ) (d : A) → i < length xs → Apart number xs → struck number (number (get_or xs i d)) xs ≡ remove xs i
  struck_at [] i d h apart = absurd (omega arith)
  struck_at (x ∷ xs) zero d h (here, later) =
      cond-true (eqb (number x) (number x)) (struck number (number x) xs) (x ∷ struck number (number x) xs) (eq-eqb (number x) (number x) refl)
      ∙ struck_none xs (number x) here
  struck_at (x ∷ xs) (suc i) d h (here, later) =
      let k = number (get_or xs i d) in
      let ne : number x ≡ k → ⊥ = λ e. here (stands_at xs i d (number x) (omega arith) (sym e)) in
      cond-false (eqb (number x) k) (struck number k xs) (x ∷ struck number k xs) (ne_eqb (number x) k ne)
      ∙ ap (λ ys. x ∷ ys) (struck_at xs i d (omega arith) later)

module _ {A B : Type 0} (f : A → B) (number : B → ℕ) where
  none_stands : (xs : List A) (k : ℕ) → ((i : ℕ) (d : A) → i < length xs → number (f (get_or xs i d)) ≡ k → ⊥) → Stands number k (map f xs) → ⊥
  none_stands [] k none s = s
  none_stands (x ∷ xs) k none (inl e) = none zero x (omega arith) e
  none_stands (x ∷ xs) k none (inr s) = none_stands xs k (λ i d h. none (suc i) d (omega arith)) s

  stands_where : (xs : List A) (i k : ℕ) (e : B) → i < length xs → ((d : A) → number (f (get_or xs i d)) ≡ k) → (number (get_or (map f xs) i e) ≡ k) × Stands number k (map f xs)
  stands_where [] i k e h at = absurd (omega arith)
  stands_where (x ∷ xs) i k e h at =
      let here : number (get_or (map f (x ∷ xs)) i e) ≡ k = ap number (get_or-map f (x ∷ xs) i x e h) ∙ at x in
      let within : i < length (map f (x ∷ xs)) = rw length-map h in
      (here, stands_at number (map f (x ∷ xs)) i e k within here)

  -- what a look-up in the tables says of the ledger's list
  pub found : (v : Vec A Global) (ys : List A) (k : ℕ) (e : B) (r : Option ℕ) → ys ≡ vec_items v
      → MatchOption r ((i : ℕ) (d : A) → i < length ys → number (f (get_or ys i d)) ≡ k → ⊥) (λ i. (i < length ys) × ((d : A) → number (f (get_or ys i d)) ≡ k) × ((j : ℕ) (d : A) → j < i → number (f (get_or ys j d)) ≡ k → ⊥))
      → MatchOption r (Stands number k (map f (vec_items v)) → ⊥) (λ i. (i < vec_len v) × (number (get_or (map f (vec_items v)) i e) ≡ k) × Stands number k (map f (vec_items v)))
  found v ys k e None same h = none_stands (vec_items v) k (subst (λ xs. (i : ℕ) (d : A) → i < length xs → number (f (get_or xs i d)) ≡ k → ⊥) same h)
  found v ys k e (Some i) same (within, here, before) =
      let long = v.ok in
      let in_items : i < length (vec_items v) = subst (λ xs. i < length xs) same within in
      let (at, stands) = stands_where (vec_items v) i k e in_items (subst (λ xs. (d : A) → number (f (get_or xs i d)) ≡ k) same here) in
      (omega arith, at, stands)
