-- The first place of a name.
use Rattle.std.proofs.Common.{◌≡◌, ℕ, ◌^◌, ◌<◌, List, [], ◌∷◌, length, get_or, Some, Ok, Err, Result, position, ap, subst, inl, inr, sym, ◌∙◌, arith, Bor}
use Rattle.std.specs.Str.{bytes_eq}
use Rattle.std.specs.List.{position_or_len}
use Rattle.std.specs.Result.{OkIff, result_ok}
use Rattle.std.proofs.lemmas.List.{get_or-map, length-map}
use Rattle.std.proofs.lemmas.List.Quantifiers.{position-Some}
use Rattle.std.proofs.lemmas.List.Sums.{position_or_len_is}
use Rattle.std.proofs.lemmas.Bool.{false≢true, false_from_ne_true, cond-true, lt-ltb}
use Rattle.std.proofs.lemmas.Slice.Eq.{bytes_eq-Decides}
use Rattle.words.specs.Figures.{Found, Named, Place, Single, texts}
use Rattle.words.specs.Decimals.{numeral_single}
use Rattle.words.specs.Tallies.{first_once}

pub text_at : (xs : List (Bor (List ℕ))) (i : ℕ) (d : Bor (List ℕ)) → i < length xs → get_or (texts xs) i [] ≡ (get_or xs i d).now
text_at xs i d h = get_or-map (λ x. x.now) xs i d [] h

pub texts_length : (xs : List (Bor (List ℕ))) → length (texts xs) ≡ length xs
texts_length xs = length-map xs (λ x. x.now)

-- what a search for the name finds is the first place of that name
pub named_at : (xs : List (Bor (List ℕ))) (word : List ℕ) (i : ℕ) → position (λ x. bytes_eq x.now word) xs ≡ Some i → i < 2 ^ 32 → Named (texts xs) word i
named_at [] word i e small = absurd (cc)
named_at (x ∷ xs) word i e small =
    let found = position-Some (λ y. bytes_eq y.now word) (x ∷ xs) i x e in (
      omega (arith, texts_length (x ∷ xs), found.0),
      text_at (x ∷ xs) i x found.0 ∙ (bytes_eq-Decides _ word).0 found.1,
      λ k h f. false≢true (sym (found.2 k h) ∙ (bytes_eq-Decides _ word).1 (sym (text_at (x ∷ xs) k x (omega (arith, h, found.0))) ∙ f)),
      small,
    )

-- and it finds the first place of that name
pub named_found : (xs : List (Bor (List ℕ))) (word : List ℕ) (i : ℕ) → Named (texts xs) word i → position (λ x. bytes_eq x.now word) xs ≡ Some i
named_found [] word i h = absurd (omega (arith, h.0))
named_found (x ∷ xs) word i h =
    let p = λ (y : Bor (List ℕ)). bytes_eq y.now word in
    let within : i < length (x ∷ xs) = omega (arith, texts_length (x ∷ xs), h.0) in
    let first : position_or_len p (x ∷ xs) ≡ i =
    position_or_len_is p (x ∷ xs) i x (omega arith)
    (λ k l. false_from_ne_true _ (λ t. h.2 k l (text_at (x ∷ xs) k x (omega arith) ∙ (bytes_eq-Decides _ word).0 t)))
    (λ l. (bytes_eq-Decides _ word).1 (sym (text_at (x ∷ xs) i x l) ∙ h.1)) in
    cond-true _ _ _ (lt-ltb (position_or_len p (x ∷ xs)) (length (x ∷ xs)) (omega arith)) ∙ ap Some first

-- and where the number is one of 32 bits, that is the place's
pub named_number : {E : Type 0} (xs : List (Bor (List ℕ))) (word : List ℕ) (i : ℕ) (r : Result ℕ E) → position (λ x. bytes_eq x.now word) xs ≡ Some i → OkIff r (i < 2 ^ 32) i → Found (result_ok r) (Named (texts xs) word)
named_number xs word i (Ok n) e h = subst (Named (texts xs) word) (sym h.1) (named_at xs word i e h.0)
named_number xs word i (Err d) e large = λ n h. let same : n ≡ i = cc (named_found xs word n h) in large (omega (arith, h.3))

pub named_single : (names : List (List ℕ)) → Single (Named names)
named_single names word x y p q = first_once (λ k. get_or names k [] ≡ word) x y p.1 q.1 p.2 q.2

pub place_single : (names : List (List ℕ)) → Single (Place names)
place_single names word x y (inl p) (inl q) = numeral_single 32 word x y p.1 q.1
place_single names word x y (inl p) (inr q) = absurd (q.0 p.0)
place_single names word x y (inr p) (inl q) = absurd (p.0 q.0)
place_single names word x y (inr p) (inr q) = named_single names word x y p.1 q.1
