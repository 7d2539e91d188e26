-- What the words of a line say.
use Rattle.std.proofs.Common.{◌≡◌, ℕ, true, List, [], ◌∷◌, length, get_or, is_err, Ok, Err, Result, sym, refl, ap, ◌∙◌, subst, arith, Bor}
use Rattle.std.proofs.lemmas.Bool.{false≢true}
use Rattle.orders.specs.declared.statement.Statement.{Statement}
use Rattle.words.specs.Figures.{Reads, Numeral, Place, mode_text, texts}
use Rattle.orders.specs.Meanings.{One, Two, Asks, SaidSafest, SaidWidest, SaidBook}

-- the exit of a `?` where nothing is meant
pub reads_refused : {T E : Type 0} (r : Result T E) (P : T → Type 0) → is_err r ≡ true → ((x : T) → P x → ⊥) → Reads r P
reads_refused (Ok x) P e none = absurd (false≢true e)
reads_refused (Err e) P h none = none

-- borrowed words, one by one
shape_1 : (xs : List (Bor (List ℕ))) (d : Bor (List ℕ)) → length xs ≡ 1 → texts xs ≡ (get_or xs 0 d).now ∷ []
shape_1 [] d h = absurd (omega arith)
shape_1 (x ∷ []) d h = refl
shape_1 (x ∷ y ∷ xs) d h = absurd (omega arith)

pub shape_2 : (xs : List (Bor (List ℕ))) (d : Bor (List ℕ)) → length xs ≡ 2 → texts xs ≡ (get_or xs 0 d).now ∷ (get_or xs 1 d).now ∷ []
shape_2 [] d h = absurd (omega arith)
shape_2 (x ∷ xs) d h = ap (λ l. x.now ∷ l) (shape_1 xs d (omega arith))

shape_3 : (xs : List (Bor (List ℕ))) (d : Bor (List ℕ)) → length xs ≡ 3 → texts xs ≡ (get_or xs 0 d).now ∷ (get_or xs 1 d).now ∷ (get_or xs 2 d).now ∷ []
shape_3 [] d h = absurd (omega arith)
shape_3 (x ∷ xs) d h = ap (λ l. x.now ∷ l) (shape_2 xs d (omega arith))

pub shape_4 : (xs : List (Bor (List ℕ))) (d : Bor (List ℕ)) → length xs ≡ 4 → texts xs ≡ (get_or xs 0 d).now ∷ (get_or xs 1 d).now ∷ (get_or xs 2 d).now ∷ (get_or xs 3 d).now ∷ []
shape_4 [] d h = absurd (omega arith)
shape_4 (x ∷ xs) d h = ap (λ l. x.now ∷ l) (shape_3 xs d (omega arith))

shape_5 : (xs : List (Bor (List ℕ))) (d : Bor (List ℕ)) → length xs ≡ 5 → texts xs ≡ (get_or xs 0 d).now ∷ (get_or xs 1 d).now ∷ (get_or xs 2 d).now ∷ (get_or xs 3 d).now ∷ (get_or xs 4 d).now ∷ []
shape_5 [] d h = absurd (omega arith)
shape_5 (x ∷ xs) d h = ap (λ l. x.now ∷ l) (shape_4 xs d (omega arith))

pub shape_6 : (xs : List (Bor (List ℕ))) (d : Bor (List ℕ)) → length xs ≡ 6 → texts xs ≡ (get_or xs 0 d).now ∷ (get_or xs 1 d).now ∷ (get_or xs 2 d).now ∷ (get_or xs 3 d).now ∷ (get_or xs 4 d).now ∷ (get_or xs 5 d).now ∷ []
shape_6 [] d h = absurd (omega arith)
shape_6 (x ∷ xs) d h = ap (λ l. x.now ∷ l) (shape_5 xs d (omega arith))

-- what the words after a verb stand for, where they are known one by one
pub one_at : (args : List (List ℕ)) (n : ℕ) → One args n → (a : List ℕ) → args ≡ a ∷ [] → Numeral 32 a n
one_at args n h a e = subst (λ ws. Numeral 32 (get_or ws 0 []) n) (sym h.1 ∙ e) h.2

pub two_at : (args : List (List ℕ)) (v : ℕ × ℕ) → Two args v → (a b : List ℕ) → args ≡ a ∷ b ∷ [] → Numeral 32 a v.0 × Numeral 32 b v.1
two_at args v h a b e = subst (λ ws. Numeral 32 (get_or ws 0 []) v.0 × Numeral 32 (get_or ws 1 []) v.1) (sym h.2 ∙ e) (h.3, h.4)

module _ {V : Type 0} (spells : List ℕ → V → Type 0) (names : List (List ℕ)) (args : List (List ℕ)) (s : Statement V) where
  pub safest_at : (h : SaidSafest spells names args s) (from to rate mode : List ℕ) → args ≡ from ∷ to ∷ rate ∷ mode ∷ [] → Asks names from to rate mode h.4
  safest_at h from to rate mode e =
      subst (λ ws. Asks names (get_or ws 0 []) (get_or ws 1 []) (get_or ws 2 []) (get_or ws 3 []) h.4) (sym h.5 ∙ e) h.6

  pub widest_at : (h : SaidWidest spells names args s) (from to mode limit : List ℕ) → args ≡ from ∷ to ∷ mode ∷ limit ∷ [] → Place names from h.4 × Place names to h.5 × (mode ≡ mode_text h.6) × spells limit h.7
  widest_at h from to mode limit e =
      subst
      (λ ws. Place names (get_or ws 0 []) h.4 × Place names (get_or ws 1 []) h.5 × (get_or ws 2 [] ≡ mode_text h.6) × spells (get_or ws 3 []) h.7)
      (sym h.8 ∙ e)
      (h.9, h.10, h.11, h.12)

  pub book_at : (h : SaidBook spells names args s) (feed from to rate mode limit : List ℕ) → args ≡ feed ∷ from ∷ to ∷ rate ∷ mode ∷ limit ∷ [] → Numeral 32 feed h.6 × Asks names from to rate mode h.7 × spells limit h.8
  book_at h feed from to rate mode limit e =
      subst
      (λ ws. Numeral 32 (get_or ws 0 []) h.6 × Asks names (get_or ws 1 []) (get_or ws 2 []) (get_or ws 3 []) (get_or ws 4 []) h.7 × spells (get_or ws 5 []) h.8)
      (sym h.9 ∙ e)
      (h.10, h.11, h.12)
