-- Two readings of the same bytes, record by record.
use Rattle.std.proofs.Common.{◌≡◌, ℕ, ◌⊎◌, List, [], ◌∷◌, ◌++◌, map, sym, refl, ◌∙◌, inl, inr, append_assoc}
use Rattle.image_format.specs.Image.{concat}
use Rattle.network.specs.Routes.{Each}

-- the second list goes on after the first, and the bytes after the first begin with what it has next
pub record Longer {A : Type 0} (f : A → List ℕ) (xs ys : List A) (s : List ℕ) : Type 0 where
  pub next : A
  pub later : List A
  pub more : List ℕ
  pub is : ys ≡ xs ++ next ∷ later
  pub begins : s ≡ f next ++ more

-- records of one kind, each of which its bytes determine
module _ {A : Type 0} (f : A → List ℕ) (Good : A → Type 0) (cut : (x y : A) (s t : List ℕ) → Good x → Good y → f x ++ s ≡ f y ++ t → (x ≡ y) × (s ≡ t)) where
  abbrev pub Walked : List A → List A → List ℕ → List ℕ → Type 0
  Walked xs ys s t = ((xs ≡ ys) × (s ≡ t)) ⊎ (Longer f xs ys s ⊎ Longer f ys xs t)

  pub one_more : (x y : A) (xs ys : List A) (s t : List ℕ) → x ≡ y → Walked xs ys s t → Walked (x ∷ xs) (y ∷ ys) s t
  one_more x y xs ys s t e (inl p) = let a = p.0 in let b = p.1 in inl (cc, b)
  one_more x y xs ys s t e (inr (inl l)) = inr (inl (record { next = l.next; later = l.later; more = l.more; is = cc l.is; begins = l.begins }))
  one_more x y xs ys s t e (inr (inr l)) = inr (inr (record { next = l.next; later = l.later; more = l.more; is = cc l.is; begins = l.begins }))

  pub walk : (xs ys : List A) (s t : List ℕ) → Each Good xs → Each Good ys → concat (map f xs) ++ s ≡ concat (map f ys) ++ t → Walked xs ys s t
  walk [] [] s t g h e = inl (refl, e)
  walk [] (y ∷ ys) s t g h e = inr (inl (record { next = y; later = ys; more = concat (map f ys) ++ t; is = refl; begins = e ∙ append_assoc (f y) (concat (map f ys)) t }))
  walk (x ∷ xs) [] s t g h e = inr (inr (record { next = x; later = xs; more = concat (map f xs) ++ s; is = refl; begins = sym e ∙ append_assoc (f x) (concat (map f xs)) s }))
  walk (x ∷ xs) (y ∷ ys) s t g h e =
      let d : (x ≡ y) × (concat (map f xs) ++ s ≡ concat (map f ys) ++ t) = cut x y (concat (map f xs) ++ s) (concat (map f ys) ++ t) g.0 h.0 (sym (append_assoc (f x) (concat (map f xs)) s) ∙ e ∙ append_assoc (f y) (concat (map f ys)) t) in
      one_more x y xs ys s t d.0 (walk xs ys s t g.1 h.1 d.1)
