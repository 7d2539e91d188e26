-- Numbers that digits write.
use Rattle.std.specs.Prelude.{◌≡◌, ℕ, ◌+◌, ◌-◌, ◌*◌, ◌^◌, ◌<◌, ◌≤◌, List, [], ◌∷◌, length, drop, slice_index}
use Rattle.std.proofs.Common.{sym, ap, ◌∙◌, add-mul, mul_assoc, add_assoc, le-mul_of_pos_right, arith}
use Rattle.std.proofs.Math.Nat.{pow-succ', one-le-pow}
use Rattle.std.proofs.ByRecursion.{All-get_or, All-from_get_or}
use Rattle.std.proofs.lemmas.List.{drop_more, drop_all}
use Rattle.words.specs.Figures.{Digit, decimal, Numeral, Single}

-- a number followed by digits is the number with the first of them, followed by the others
pub carry : (n c : ℕ) (cs : List ℕ) → n * 10 ^ length (c ∷ cs) + decimal (c ∷ cs) ≡ (n * 10 + (c - 48)) * 10 ^ length cs + decimal cs
carry n c cs =
    ap
    (λ x. x + ((c - 48) * 10 ^ length cs + decimal cs))
    (ap (λ x. n * x) (pow-succ' 10 (length cs)) ∙ sym (mul_assoc n 10 (10 ^ length cs)))
    ∙ sym (add_assoc (n * 10 * 10 ^ length cs) ((c - 48) * 10 ^ length cs) (decimal cs))
    ∙ ap (λ x. x + decimal cs) (sym (add-mul (n * 10) (c - 48) (10 ^ length cs)))

-- the number read so far, followed by the digits to come, is the number of the word
abbrev pub SoFar : List ℕ → ℕ → ℕ → Type 0
SoFar word n i = n * 10 ^ length (drop i word) + decimal (drop i word) ≡ decimal word

pub so_far_none : (word : List ℕ) → SoFar word 0 0
so_far_none word = omega arith

pub so_far_more : (word : List ℕ) (n i : ℕ) → i < length word → SoFar word n i → SoFar word (n * 10 + (slice_index word i - 48)) (i + 1)
so_far_more word n i h e =
    sym (carry n (slice_index word i) (drop (i + 1) word)) ∙ ap (λ ds. n * 10 ^ length ds + decimal ds) (sym (drop_more word i 0 h)) ∙ e

pub so_far_all : (word : List ℕ) (n i : ℕ) → length word ≤ i → SoFar word n i → n ≡ decimal word
so_far_all word n i h e =
    let last : n * 10 ^ length {A = ℕ} [] + decimal [] ≡ decimal word = ap (λ ds. n * 10 ^ length ds + decimal ds) (sym (drop_all i word h)) ∙ e in
    omega arith

-- digits only add
pub grows : (m : ℕ) (ds : List ℕ) → m ≤ m * 10 ^ length ds + decimal ds
grows m ds = omega (arith, le-mul_of_pos_right {m = 10 ^ length ds} m (one-le-pow (length ds) 10 (omega arith)))

-- in the midst of a number, the next byte is a digit, and the number up to it is one of 32 bits
pub digit_fits : (word : List ℕ) (n i x : ℕ) → i < length word → SoFar word n i → Numeral 32 word x → Digit (slice_index word i) × (n * 10 + (slice_index word i - 48) < 2 ^ 32)
digit_fits word n i x h e num =
    (All-get_or Digit word i 0 h num.1, omega (arith, grows (n * 10 + (slice_index word i - 48)) (drop (i + 1) word), so_far_more word n i h e, num.2, num.3))

pub number_read : (word : List ℕ) (n i : ℕ) → 0 < length word → length word ≤ i → ((k : ℕ) → k < i → Digit (slice_index word k)) → SoFar word n i → n < 2 ^ 32 → Numeral 32 word n
number_read word n i some all digits e small =
    (some, All-from_get_or Digit word 0 (λ k h. digits k (omega arith)), so_far_all word n i all e, small)

pub numeral_single : (bits : ℕ) → Single (Numeral bits)
numeral_single bits word x y p q = p.2 ∙ sym q.2
