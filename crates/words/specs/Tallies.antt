-- A limit by tally is cut at its first colon.
use Rattle.std.specs.Prelude.{◌≡◌, ℕ, ◌+◌, ◌-◌, ◌<◌, List, ◌∷◌, ◌++◌, length, take, drop, slice_index, slice_index_or, refl}
use Rattle.std.proofs.Common.{sym, ap, subst, ◌∙◌, inl, inr, arith, length-append}
use Rattle.std.specs.List.{between, AllByRecursion}
use Rattle.std.proofs.ByRecursion.{All-get_or}
use Rattle.std.proofs.lemmas.List.{take-append-drop, drop_more, take_at, drop_at, get_or_at, get_or_append_left, take_rest}
use Rattle.std.proofs.lemmas.Bool.{cases_order}
use Rattle.words.specs.Figures.{Digit, Numeral, FirstColon, TallyLimit, Single}
use Rattle.words.specs.Decimals.{numeral_single}

-- after digits the first colon stands
pub colon_after : (count total : List ℕ) → AllByRecursion Digit count → FirstColon (count ++ (58 ∷ total)) (length count)
colon_after count total digits =
    (omega (arith, length-append count (58 ∷ total)), get_or_at count 58 total 0 (length count) refl, λ k h e. let d = All-get_or Digit count k 0 h digits in let f : slice_index_or count k 0 ≡ 58 = sym (get_or_append_left count (58 ∷ total) 0 k h) ∙ e in omega (arith, d))

-- the first place of a kind is one
pub first_once : (P : ℕ → Type 0) (i j : ℕ) → P i → P j → ((k : ℕ) → k < i → P k → ⊥) → ((k : ℕ) → k < j → P k → ⊥) → i ≡ j
first_once P i j here there before_i before_j =
    elim (cases_order i j) [ inl e ↦ e | inr (inl l) ↦ absurd (before_j i l here) | inr (inr l) ↦ absurd (before_i j l there) ]

pub colon_once : (word : List ℕ) (i j : ℕ) → FirstColon word i → FirstColon word j → i ≡ j
colon_once word i j p q = first_once (λ k. slice_index word k ≡ 58) i j p.1 q.1 p.2 q.2

pub tally_colon : (word : List ℕ) (v : ℕ × ℕ) → (t : TallyLimit word v) → FirstColon word (length t.0)
tally_colon word v t = subst (λ w. FirstColon w (length t.0)) (sym t.2) (colon_after t.0 t.1 t.3.1)

-- the parts are what stands before and after the first colon
pub tally_parts : (word : List ℕ) (i : ℕ) (v : ℕ × ℕ) → FirstColon word i → TallyLimit word v → Numeral 16 (take i word) v.0 × Numeral 32 (drop (i + 1) word) v.1
tally_parts word i v p t =
    let count = t.0 in
    let total = t.1 in
    let at : length count ≡ i = colon_once word (length count) i (tally_colon word v t) p in
    let front : take i word ≡ count = ap (λ w. take i w) t.2 ∙ take_at count (58 ∷ total) i at in
    let split : drop i word ≡ 58 ∷ total = ap (λ w. drop i w) t.2 ∙ drop_at count (58 ∷ total) i at in
    let more : slice_index_or word i 0 ∷ drop (i + 1) word ≡ 58 ∷ total = sym (drop_more word i 0 p.0) ∙ split in
    let back : drop (i + 1) word ≡ total = cc in
    (subst (λ w. Numeral 16 w v.0) (sym front) t.3, subst (λ w. Numeral 32 w v.1) (sym back) t.4)

pub tally_made : (word : List ℕ) (i a b : ℕ) → FirstColon word i → Numeral 16 (take i word) a → Numeral 32 (drop (i + 1) word) b → TallyLimit word (a, b)
tally_made word i a b p m n =
    (take i word, drop (i + 1) word, sym (take-append-drop i word) ∙ ap (λ l. take i word ++ l) (drop_more word i 0 p.0 ∙ ap (λ c. c ∷ drop (i + 1) word) p.1), m, n)

pub tally_single : Single TallyLimit
tally_single word x y p q =
    let first = tally_colon word x p in
    let s = tally_parts word (length p.0) x first p in
    let t = tally_parts word (length p.0) y first q in
    let e : x.0 ≡ y.0 = numeral_single 16 _ _ _ s.0 t.0 in
    let f : x.1 ≡ y.1 = numeral_single 32 _ _ _ s.1 t.1 in
    ap (λ n. (n, x.1)) e ∙ ap (λ n. (y.0, n)) f

-- the parts before and after a place, cut as ranges
pub front_cut : {X : Type 0} (word : List X) (i : ℕ) → between 0 i word ≡ take i word
front_cut word i = let e : i - 0 ≡ i = omega arith in ap (λ n. take n word) e

pub back_cut : (word : List ℕ) (i : ℕ) → between i (length word) word ≡ drop i word
back_cut word i = take_rest word i
