-- What stands in a list, and tests over lists. Assumes nothing.
use Rattle.std.proofs.Common.{◌≡◌, ℕ, zero, suc, ◌<◌, Bool, true, false, cond, ◌&&◌, ◌||◌, ◌⊎◌, List, [], ◌∷◌, ◌++◌, map, length, get_or, drop, sym, refl, ap, subst, inl, inr, arith}
use Rattle.std.proofs.lemmas.Bool.{false≢true, and_parts, and_from, or_cases, or_left, or_right, cases_Bool, cond-true, cond-false}
use Rattle.network.specs.Routes.{Each}
pub use Rattle.network.specs.Routes.{each_at}

abbrev pub every : {A : Type 0} → (A → Bool) → List A → Bool
every p [] = true
every p (x ∷ xs) = p x && every p xs

abbrev pub some : {A : Type 0} → (A → Bool) → List A → Bool
some p [] = false
some p (x ∷ xs) = p x || some p xs

abbrev pub kept : {A : Type 0} → (A → Bool) → List A → List A
kept p [] = []
kept p (x ∷ xs) = cond (p x) (x ∷ kept p xs) (kept p xs)

-- x stands in the list
abbrev pub In : {A : Type 0} → A → List A → Type 0
In x [] = ⊥
In x (y ∷ ys) = (x ≡ y) ⊎ In x ys

module _ {A : Type 0} where
  -- what holds at each place holds of each element
  pub at_each : (P : A → Type 0) (xs : List A) (d : A) → ((i : ℕ) → i < length xs → P (get_or xs i d)) → Each P xs
  at_each P [] d f = tt
  at_each P (x ∷ xs) d f = (f 0 (omega arith), at_each P xs d (λ i h. f (suc i) (omega arith)))

  pub each_drop : (P : A → Type 0) (xs : List A) (k : ℕ) → Each P xs → Each P (drop k xs)
  each_drop P xs zero p = p
  each_drop P [] (suc k) p = tt
  each_drop P (x ∷ xs) (suc k) p = each_drop P xs k p.1

  -- what holds of each element, and what a test tells of each
  pub each_in : (P : A → Type 0) (xs : List A) → Each P xs → (x : A) → In x xs → P x
  each_in P [] e x i = absurd i
  each_in P (y ∷ ys) e x (inl p) = subst P (sym p) e.0
  each_in P (y ∷ ys) e x (inr i) = each_in P ys e.1 x i

  pub every_each : (p : A → Bool) (P : A → Type 0) → ((x : A) → p x ≡ true → P x) → (xs : List A) → every p xs ≡ true → Each P xs
  every_each p P f [] h = tt
  every_each p P f (x ∷ xs) h = let q = and_parts (p x) (every p xs) h in (f x q.0, every_each p P f xs q.1)

  pub each_every : (p : A → Bool) (P : A → Type 0) → ((x : A) → P x → p x ≡ true) → (xs : List A) → Each P xs → every p xs ≡ true
  each_every p P f [] e = refl
  each_every p P f (x ∷ xs) e = and_from (p x) (every p xs) (f x e.0) (each_every p P f xs e.1)

  pub every_in : (p : A → Bool) (xs : List A) → every p xs ≡ true → (x : A) → In x xs → p x ≡ true
  every_in p xs h = each_in (λ x. p x ≡ true) xs (every_each p (λ x. p x ≡ true) (λ x e. e) xs h)

  pub in_every : (p : A → Bool) (xs : List A) → ((x : A) → In x xs → p x ≡ true) → every p xs ≡ true
  in_every p [] f = refl
  in_every p (x ∷ xs) f = and_from (p x) (every p xs) (f x (inl refl)) (in_every p xs (λ y i. f y (inr i)))

  pub some_in : (p : A → Bool) (xs : List A) → some p xs ≡ true → (x : A) × In x xs × (p x ≡ true)
  some_in p [] h = absurd (false≢true h)
  some_in p (x ∷ xs) h = elim (or_cases (p x) (some p xs) h) [
    | inl e ↦ (x, inl refl, e)
    | inr e ↦ let r = some_in p xs e in (r.0, inr r.1, r.2)
  ]

  pub in_some : (p : A → Bool) (xs : List A) (x : A) → In x xs → p x ≡ true → some p xs ≡ true
  in_some p [] x i h = absurd i
  in_some p (y ∷ ys) x (inl e) h = or_left (p y) (some p ys) (subst (λ z. p z ≡ true) e h)
  in_some p (y ∷ ys) x (inr i) h = or_right (p y) (some p ys) (in_some p ys x i h)

  pub in_kept : (p : A → Bool) (xs : List A) (x : A) → In x xs → p x ≡ true → In x (kept p xs)
  in_kept p [] x i h = absurd i
  in_kept p (y ∷ ys) x (inl e) h = subst (λ zs. In x zs) (sym (cond-true (p y) (y ∷ kept p ys) (kept p ys) (subst (λ z. p z ≡ true) e h))) (inl e)
  in_kept p (y ∷ ys) x (inr i) h = elim (cases_Bool (p y)) [
    | inl e ↦ subst (λ zs. In x zs) (sym (cond-true (p y) (y ∷ kept p ys) (kept p ys) e)) (inr (in_kept p ys x i h))
    | inr e ↦ subst (λ zs. In x zs) (sym (cond-false (p y) (y ∷ kept p ys) (kept p ys) e)) (in_kept p ys x i h)
  ]

  pub in_left : (xs ys : List A) (x : A) → In x xs → In x (xs ++ ys)
  in_left [] ys x i = absurd i
  in_left (z ∷ xs) ys x (inl e) = inl e
  in_left (z ∷ xs) ys x (inr i) = inr (in_left xs ys x i)

  pub in_right : (xs ys : List A) (x : A) → In x ys → In x (xs ++ ys)
  in_right [] ys x i = i
  in_right (z ∷ xs) ys x i = inr (in_right xs ys x i)

  pub in_either : (xs ys : List A) (x : A) → In x (xs ++ ys) → In x xs ⊎ In x ys
  in_either [] ys x i = inr i
  in_either (z ∷ xs) ys x (inl e) = inl (inl e)
  in_either (z ∷ xs) ys x (inr i) = elim (in_either xs ys x i) [ inl j ↦ inl (inr j) | inr j ↦ inr j ]

  -- a list that stands only where a test passes
  pub in_cond : (b : Bool) (xs : List A) (x : A) → b ≡ true → In x xs → In x (cond b xs [])
  in_cond b xs x e i = subst (λ zs. In x zs) (sym (cond-true b xs [] e)) i

  pub of_cond : (b : Bool) (xs : List A) (x : A) → In x (cond b xs []) → (b ≡ true) × In x xs
  of_cond true xs x i = (refl, i)
  of_cond false xs x i = absurd i

module _ {A B : Type 0} (f : A → B) where
  pub in_map : (xs : List A) (x : A) → In x xs → In (f x) (map f xs)
  in_map [] x i = absurd i
  in_map (y ∷ ys) x (inl e) = inl (ap f e)
  in_map (y ∷ ys) x (inr i) = inr (in_map ys x i)

  pub of_map : (xs : List A) (y : B) → In y (map f xs) → (x : A) × In x xs × (y ≡ f x)
  of_map [] y i = absurd i
  of_map (x ∷ xs) y (inl e) = (x, inl refl, e)
  of_map (x ∷ xs) y (inr i) = let r = of_map xs y i in (r.0, inr r.1, r.2)
