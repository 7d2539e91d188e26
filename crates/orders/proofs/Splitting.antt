-- Every line has words, and just one list of them.
use Rattle.std.proofs.Common.{◌≡◌, ℕ, ◌+◌, ◌<◌, ◌≤◌, ◌⊎◌, List, [], ◌∷◌, ◌++◌, length, get_or, take, drop, set, sym, refl, ap, ◌∙◌, subst, inl, inr, ⊎_elim, append_assoc, arith, Bor}
use Rattle.std.specs.List.{AllByRecursion}
use Rattle.std.proofs.ByRecursion.{All-from_get_or}
use Rattle.std.proofs.lemmas.List.{take-append-drop, length-take-le, get_or-take, drop_more, drop_all, take_more_set, map_push}
use Rattle.std.proofs.lemmas.Bool.{cases_eq, cases_lt}
use Rattle.words.specs.Figures.{texts}
use Rattle.orders.specs.Lines.{Blank, Inner, Off, Ends, Word, Splits, Next}

-- a run of bytes of a kind, up to the first byte of another, is one
pub run_once : (P : ℕ → Type 0) (xs ys r s : List ℕ) → AllByRecursion P xs → AllByRecursion P ys → Off P r → Off P s → xs ++ r ≡ ys ++ s → (xs ≡ ys) × (r ≡ s)
run_once P [] [] r s a b h k e = (refl, e)
run_once P [] (y ∷ ys) [] s a b h k e = absurd (cc)
run_once P [] (y ∷ ys) (x ∷ r) s a b h k e = absurd (h (let q : y ≡ x = cc in subst P q b.0))
run_once P (x ∷ xs) [] r [] a b h k e = absurd (cc)
run_once P (x ∷ xs) [] r (y ∷ s) a b h k e = absurd (k (let q : x ≡ y = cc in subst P q a.0))
run_once P (x ∷ xs) (y ∷ ys) r s a b h k e =
    let q : x ≡ y = cc in
    let t : xs ++ r ≡ ys ++ s = cc in
    let rest : (xs ≡ ys) × (r ≡ s) = run_once P xs ys r s a.1 b.1 h k t in
    let f : xs ≡ ys = rest.0 in
    ((cc), rest.1)

word_off_blank : (w rest : List ℕ) → Word w → Off Blank (w ++ rest)
word_off_blank [] rest h = absurd (omega (arith, h.0))
word_off_blank (b ∷ w) rest h = h.1.0.0

word_no_end : (w rest : List ℕ) → Word w → Ends (w ++ rest) → ⊥
word_no_end [] rest h e = omega (arith, h.0)
word_no_end (b ∷ w) rest h e = h.1.0.1 e

ends_off_blank : (rest : List ℕ) → Ends rest → Off Blank rest
ends_off_blank [] h = tt
ends_off_blank (b ∷ rest) h = ⊎_elim (λ e. omega arith) (⊎_elim (λ e. omega arith) (λ e. omega arith))

pub splits_one : (line : List ℕ) (ws vs : List (List ℕ)) → Splits line ws → Splits line vs → ws ≡ vs
splits_one line [] [] s t = refl
splits_one line [] (v ∷ vs) s t =
    let q = run_once Blank s.0 t.0 s.1 (v ++ t.1) s.3 t.3 (ends_off_blank s.1 s.4) (word_off_blank v t.1 t.4) (sym s.2 ∙ t.2) in
    absurd (word_no_end v t.1 t.4 (subst Ends q.1 s.4))
splits_one line (w ∷ ws) [] s t =
    let q = run_once Blank t.0 s.0 t.1 (w ++ s.1) t.3 s.3 (ends_off_blank t.1 t.4) (word_off_blank w s.1 s.4) (sym t.2 ∙ s.2) in
    absurd (word_no_end w s.1 s.4 (subst Ends q.1 t.4))
splits_one line (w ∷ ws) (v ∷ vs) s t =
    let q = run_once Blank s.0 t.0 (w ++ s.1) (v ++ t.1) s.3 t.3 (word_off_blank w s.1 s.4) (word_off_blank v t.1 t.4) (sym s.2 ∙ t.2) in
    let p = run_once Inner w v s.1 t.1 s.4.1 t.4.1 s.5 t.5 q.1 in
    let e : w ≡ v = p.0 in
    let f : ws ≡ vs = splits_one s.1 ws vs s.6 (subst (λ l. Splits l vs) (sym p.1) t.6) in
    cc

-- every byte is a blank, the `#` of a comment, or a byte of a word
abbrev Kind : ℕ → Type 0
Kind b = Blank b ⊎ ((b ≡ 35) ⊎ Inner b)

kind_by : (b : ℕ) → (b ≡ 32) ⊎ (b ≡ 32 → ⊥) → (b ≡ 9) ⊎ (b ≡ 9 → ⊥) → (b ≡ 13) ⊎ (b ≡ 13 → ⊥) → (b ≡ 35) ⊎ (b ≡ 35 → ⊥) → Kind b
kind_by b (inl e) q r s = inl (inl e)
kind_by b (inr n) (inl e) r s = inl (inr (inl e))
kind_by b (inr n) (inr m) (inl e) s = inl (inr (inr e))
kind_by b (inr n) (inr m) (inr o) (inl e) = inr (inl e)
kind_by b (inr n) (inr m) (inr o) (inr p) = inr (inr (⊎_elim n (⊎_elim m o), p))

kind : (b : ℕ) → Kind b
kind b = kind_by b (cases_eq b 32) (cases_eq b 9) (cases_eq b 13) (cases_eq b 35)

off_inner : (gap rest : List ℕ) → AllByRecursion Blank gap → Ends rest → Off Inner (gap ++ rest)
off_inner [] [] g h = tt
off_inner [] (b ∷ rest) g h = λ i. i.1 h
off_inner (b ∷ gap) rest g h = λ i. i.0 g.0

add_blank : (b : ℕ) (line : List ℕ) (ws : List (List ℕ)) → Blank b → Splits line ws → Splits (b ∷ line) ws
add_blank b line [] k s = (b ∷ s.0, s.1, ap (λ l. b ∷ l) s.2, (k, s.3), s.4)
add_blank b line (w ∷ ws) k s = (b ∷ s.0, s.1, ap (λ l. b ∷ l) s.2, (k, s.3), s.4, s.5, s.6)

one_byte : (b : ℕ) → Inner b → Word (b ∷ [])
one_byte b k = (omega arith, (k, tt))

longer_word : (b : ℕ) (w : List ℕ) → Inner b → Word w → Word (b ∷ w)
longer_word b w k h = (omega arith, (k, h.1))

-- a byte of a word in front of a line whose first word stands after that gap
join_inner : (b : ℕ) (line w : List ℕ) (ws : List (List ℕ)) (gap rest : List ℕ) → Inner b → line ≡ gap ++ (w ++ rest) → AllByRecursion Blank gap → Word w → Off Inner rest → Splits rest ws → (words : List (List ℕ)) × Splits (b ∷ line) words
join_inner b line w ws [] rest k e g h o s = ((b ∷ w) ∷ ws, ([], rest, ap (λ l. b ∷ l) e, tt, longer_word b w k h, o, s))
join_inner b line w ws (x ∷ gap) rest k e g h o s =
    ((b ∷ []) ∷ w ∷ ws, ([], line, refl, tt, one_byte b k, subst (Off Inner) (sym e) (λ i. i.0 g.0), (x ∷ gap, rest, e, g, h, o, s)))

add_inner : (b : ℕ) (line : List ℕ) (ws : List (List ℕ)) → Inner b → Splits line ws → (words : List (List ℕ)) × Splits (b ∷ line) words
add_inner b line [] k s =
    ((b ∷ []) ∷ [], ([], line, refl, tt, one_byte b k, subst (Off Inner) (sym s.2) (off_inner s.0 s.1 s.3 s.4), s))
add_inner b line (w ∷ ws) k s = join_inner b line w ws s.0 s.1 k s.2 s.3 s.4 s.5 s.6

by_kind : (b : ℕ) (line : List ℕ) → (words : List (List ℕ)) × Splits line words → Kind b → (words : List (List ℕ)) × Splits (b ∷ line) words
by_kind b line t (inl k) = (t.0, add_blank b line t.0 k t.1)
by_kind b line t (inr (inl e)) = ([], ([], b ∷ line, refl, tt, e))
by_kind b line t (inr (inr k)) = add_inner b line t.0 k t.1

pub splits_some : (line : List ℕ) → (words : List (List ℕ)) × Splits line words
splits_some [] = ([], ([], [], refl, tt, tt))
splits_some (b ∷ line) = by_kind b line (splits_some line) (kind b)

-- a run of bytes of a kind, read off the bytes one by one
run_of : (P : ℕ → Type 0) (line : List ℕ) (n : ℕ) → n ≤ length line → ((k : ℕ) → k < n → P (get_or line k 0)) → AllByRecursion P (take n line)
run_of P line n within f =
    All-from_get_or P (take n line) 0
    (λ k h. let l : k < n = omega (arith, length-take-le n line within) in subst P (sym (get_or-take n line k 0 l)) (f k l))

-- and where it stops the next byte is of another
pub run_off : (P : ℕ → Type 0) (line : List ℕ) (n : ℕ) → (n < length line → P (get_or line n 0) → ⊥) → Off P (drop n line)
run_off P line n f =
    ⊎_elim (λ h. subst (Off P) (sym (drop_more line n 0 h)) (f h)) (λ h. subst (Off P) (sym (drop_all n line h)) tt) (cases_lt n (length line))

-- what stops blanks and is in no word ends the line
ends_here : (line : List ℕ) → Off Blank line → Off Inner line → Ends line
ends_here [] o i = tt
ends_here (b ∷ line) o i = elim (kind b) [ inl k ↦ absurd (o k) | inr (inl e) ↦ e | inr (inr k) ↦ absurd (i k) ]

-- no word after the blanks
pub no_words : (line from : List ℕ) (n : ℕ) → n ≤ length line → ((k : ℕ) → k < n → Blank (get_or line k 0)) → Off Blank (drop n line) → from ≡ drop n line → Off Inner from → Splits line []
no_words line from n within f o e i =
    (take n line, drop n line, sym (take-append-drop n line), run_of Blank line n within f, ends_here (drop n line) o (subst (Off Inner) e i))

-- a word after the blanks
pub next_is : (line from : List ℕ) (n m : ℕ) → n ≤ length line → ((k : ℕ) → k < n → Blank (get_or line k 0)) → from ≡ drop n line → m ≤ length from → 0 < m → ((k : ℕ) → k < m → Inner (get_or from k 0)) → (m < length from → Inner (get_or from m 0) → ⊥) → Next line (take m from) (drop m from)
next_is line from n m within f e inside some g stops =
    let cut : line ≡ take n line ++ (take m from ++ drop m from) =
    sym (take-append-drop n line) ∙ ap (λ l. take n line ++ l) (sym (take-append-drop m from ∙ e)) in
    let long : 0 < length (take m from) = omega (arith, length-take-le m from inside) in
    record {
      some = long;
      within = (take n line, cut);
      splits = λ ws s. (take n line, drop m from, cut, run_of Blank line n within f, (long, run_of Inner from m inside g), run_off Inner from m stops, s);
    }

-- one more word of the line is kept
pub words_more : (line rest after : List ℕ) (words : List (Bor (List ℕ))) (count : ℕ) (x : Bor (List ℕ)) → count < length words → Next rest x.now after → ((ws : List (List ℕ)) → Splits rest ws → Splits line (texts (take count words) ++ ws)) → (ws : List (List ℕ)) → Splits after ws → Splits line (texts (take (count + 1) (set words count x)) ++ ws)
words_more line rest after words count x h next inv ws s =
    let kept = texts (take count words) in
    let same : kept ++ (x.now ∷ ws) ≡ texts (take (count + 1) (set words count x)) ++ ws =
    sym
    (ap (λ l. texts l ++ ws) (take_more_set words count x h)
    ∙ ap (λ l. l ++ ws) (map_push (λ y. y.now) (take count words) x)
    ∙ append_assoc kept (x.now ∷ []) ws) in
    subst (Splits line) same (inv (x.now ∷ ws) (next.splits ws s))
