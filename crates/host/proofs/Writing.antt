-- Bytes written one after the other.
use Rattle.std.proofs.Common.{◌≡◌, ℕ, ◌+◌, ◌-◌, ◌*◌, ◌<◌, ◌≤◌, List, [], ◌∷◌, ◌++◌, length, get_or, take, drop, sym, refl, ap, ◌∙◌, append_assoc, add-zero, zero-add, arith, length-append}
use native.Mathlib.Nat.{sub-zero}
use Rattle.std.proofs.lemmas.List.{take_at, drop_at, length-take-le, take_more, take_all, drop-drop, take-append-drop}
use Rattle.image_format.specs.Image.{be16}
use Rattle.host.specs.Layout.{route_bytes, answer_bytes, with_bytes, led_by}

-- two bytes for each circuit
pub route_length : (route : List ℕ) → length (route_bytes route) ≡ 2 * length route
route_length [] = refl
route_length (c ∷ route) = omega (arith, route_length route)

route_push : (route : List ℕ) (c : ℕ) → route_bytes (route ++ c ∷ []) ≡ route_bytes route ++ be16 c
route_push [] c = refl
route_push (x ∷ route) c = ap (λ z. be16 x ++ z) (route_push route c)

-- one more circuit
pub route_more : (route : List ℕ) (i : ℕ) → i < length route → route_bytes (take (i + 1) route) ≡ route_bytes (take i route) ++ be16 (get_or route i 0)
route_more route i h = ap route_bytes (take_more route i 0 h) ∙ route_push (take i route) (get_or route i 0)

-- bytes that follow those just written
then_bytes : (buffer : List ℕ) (at : ℕ) (xs ys : List ℕ) (next : ℕ) → at + length xs ≤ length buffer → next ≡ at + length xs
    → with_bytes (with_bytes buffer at xs) next ys ≡ with_bytes buffer at (xs ++ ys)
then_bytes buffer at xs ys next h e =
    let front = take at buffer in
    let rest = drop (at + length xs) buffer in
    let whole : front ++ (xs ++ rest) ≡ (front ++ xs) ++ rest = sym (append_assoc front xs rest) in
    let long : length (front ++ xs) ≡ next = omega (arith, length-append front xs, length-take-le at buffer (omega arith)) in
    let taken : take next (front ++ (xs ++ rest)) ≡ front ++ xs = ap (λ z. take next z) whole ∙ take_at (front ++ xs) rest next long in
    let dropped : drop next (front ++ (xs ++ rest)) ≡ rest = ap (λ z. drop next z) whole ∙ drop_at (front ++ xs) rest next long in
    let past : drop (next + length ys) (front ++ (xs ++ rest)) ≡ drop (at + length (xs ++ ys)) buffer =
    sym (drop-drop (length ys) next (front ++ (xs ++ rest)))
    ∙ ap (λ z. drop (length ys) z) dropped
    ∙ drop-drop (length ys) (at + length xs) buffer
    ∙ ap (λ z. drop z buffer) (omega (arith, length-append xs ys)) in
    ap (λ z. z ++ (ys ++ drop (next + length ys) (front ++ (xs ++ rest)))) taken
    ∙ ap (λ z. (front ++ xs) ++ (ys ++ z)) past
    ∙ append_assoc front xs (ys ++ drop (at + length (xs ++ ys)) buffer)
    ∙ ap (λ z. front ++ z) (sym (append_assoc xs ys (drop (at + length (xs ++ ys)) buffer)))

pub more_bytes : (buffer later last : List ℕ) (at : ℕ) (xs ys : List ℕ) (next : ℕ) → later ≡ with_bytes buffer at xs → last ≡ with_bytes later next ys → at + length xs ≤ length buffer → next ≡ at + length xs
    → last ≡ with_bytes buffer at (xs ++ ys)
more_bytes buffer later last at xs ys next e d h n = d ∙ ap (λ z. with_bytes z next ys) e ∙ then_bytes buffer at xs ys next h n

pub no_bytes : (buffer : List ℕ) (at : ℕ) → buffer ≡ with_bytes buffer at []
no_bytes buffer at = sym (ap (λ z. take at buffer ++ drop z buffer) (add-zero at) ∙ take-append-drop at buffer)

-- a route written circuit by circuit: one more, and all
pub more_circuits : (buffer later last : List ℕ) (at : ℕ) (route : List ℕ) (i next : ℕ) → at + 2 * length route ≤ length buffer → i < length route → later ≡ with_bytes buffer at (route_bytes (take i route)) → last ≡ with_bytes later next (be16 (get_or route i 0)) → next ≡ at + 2 * i
    → last ≡ with_bytes buffer at (route_bytes (take (i + 1) route))
more_circuits buffer later last at route i next h k e d n =
    let long : length (route_bytes (take i route)) ≡ 2 * i = omega (arith, route_length (take i route), length-take-le i route (omega arith)) in
    more_bytes buffer later last at (route_bytes (take i route)) (be16 (get_or route i 0)) next e d (omega arith) (omega arith)
    ∙ ap (λ z. with_bytes buffer at z) (sym (route_more route i k))

pub all_circuits : (buffer later : List ℕ) (at : ℕ) (route : List ℕ) (i : ℕ) → length route ≤ i → later ≡ with_bytes buffer at (route_bytes (take i route)) → later ≡ with_bytes buffer at (route_bytes route)
all_circuits buffer later at route i h e = e ∙ ap (λ z. with_bytes buffer at (route_bytes z)) (take_all i route h)

pub at_start : (bytes buffer later : List ℕ) → later ≡ with_bytes buffer 0 bytes → later ≡ led_by bytes buffer
at_start bytes buffer later e = e ∙ ap (λ z. bytes ++ drop z buffer) (zero-add (length bytes))

-- parts of two lists from their start
pub fronts_written : (n m : ℕ) (first second : List ℕ) (cost : ℕ) (buffer later : List ℕ) → later ≡ led_by (answer_bytes (take (n - 0) first) (take (m - 0) second) cost) buffer
    → later ≡ led_by (answer_bytes (take n first) (take m second) cost) buffer
fronts_written n m first second cost buffer later e =
    e ∙ ap (λ z. led_by (answer_bytes (take z first) (take (m - 0) second) cost) buffer) (sub-zero n)
    ∙ ap (λ z. led_by (answer_bytes (take n first) (take z second) cost) buffer) (sub-zero m)
