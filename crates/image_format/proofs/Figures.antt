-- Big-endian figures: what is written is read back, and the other way round.
use Rattle.std.proofs.Common.{◌≡◌, ℕ, ◌+◌, ◌*◌, ◌/◌, ◌%◌, ◌<◌, List, [], ◌∷◌, ◌++◌, length, get_or, drop, sym, refl, add_assoc, arith}
use Rattle.std.proofs.lemmas.Nat.{shr-shr}
use Rattle.std.proofs.lemmas.List.{get_or-append-add, get_or-drop}
use Rattle.image_format.specs.Image.{be16, be32, at16, at32}

-- the figure of two bytes, and of four
abbrev pub two : ℕ → ℕ → ℕ
two a b = a * 256 + b

abbrev pub four : ℕ → ℕ → ℕ → ℕ → ℕ
four a b c d = two a b * 65536 + two c d

pub two_of : (x : ℕ) → x < 65536 → two ((x / 256) % 256) (x % 256) ≡ x
two_of x h = omega arith

four_join : (x a b c l m n o : ℕ) → x ≡ a * 256 + l → a ≡ b * 256 + m → b ≡ c * 256 + n → o ≡ c → four o n m l ≡ x
four_join x a b c l m n o p q r s = omega arith

four_from : (x a b c : ℕ) → a ≡ x / 256 → b ≡ a / 256 → c ≡ b / 256 → x < 4294967296 → four (c % 256) (b % 256) (a % 256) (x % 256) ≡ x
four_from x a b c p q r h =
    let i : a < 16777216 = omega arith in
    let j : b < 65536 = omega arith in
    let k : c < 256 = omega arith in
    let s : x ≡ a * 256 + x % 256 = omega arith in
    let t : a ≡ b * 256 + a % 256 = omega arith in
    let u : b ≡ c * 256 + b % 256 = omega arith in
    let v : c % 256 ≡ c = omega arith in
    four_join x a b c (x % 256) (a % 256) (b % 256) (c % 256) s t u v

pub four_of : (x : ℕ) → x < 4294967296 → four ((x / 16777216) % 256) ((x / 65536) % 256) ((x / 256) % 256) (x % 256) ≡ x
four_of x h = four_from x (x / 256) (x / 65536) (x / 16777216) refl (sym (shr-shr x 8 8)) (sym (shr-shr x 16 8)) h

-- the bytes of a figure give it back
pub at16_be16 : (x : ℕ) (more : List ℕ) → x < 65536 → at16 (be16 x ++ more) 0 ≡ x
at16_be16 x more h = two_of x h

pub at32_be32 : (x : ℕ) (more : List ℕ) → x < 4294967296 → at32 (be32 x ++ more) 0 ≡ x
at32_be32 x more h = four_of x h

-- the figure of bytes gives them back
pub be16_two : (a b : ℕ) → a < 256 → b < 256 → be16 (two a b) ≡ a ∷ b ∷ []
be16_two a b h k =
    let p : (two a b / 256) % 256 ≡ a = omega arith in
    let q : two a b % 256 ≡ b = omega arith in
    cc

pub be32_four : (a b c d : ℕ) → a < 256 → b < 256 → c < 256 → d < 256 → be32 (four a b c d) ≡ a ∷ b ∷ c ∷ d ∷ []
be32_four a b c d h k l m =
    let p : (four a b c d / 16777216) % 256 ≡ a = omega arith in
    let q : (four a b c d / 65536) % 256 ≡ b = omega arith in
    let r : (four a b c d / 256) % 256 ≡ c = omega arith in
    let s : four a b c d % 256 ≡ d = omega arith in
    cc

-- equal bytes, equal figures
pub same16 : (x y : ℕ) → x < 65536 → y < 65536 → (x / 256) % 256 ≡ (y / 256) % 256 → x % 256 ≡ y % 256 → x ≡ y
same16 x y h k p q = omega arith

pub same32 : (x y : ℕ) → x < 4294967296 → y < 4294967296 → (x / 16777216) % 256 ≡ (y / 16777216) % 256 → (x / 65536) % 256 ≡ (y / 65536) % 256 → (x / 256) % 256 ≡ (y / 256) % 256 → x % 256 ≡ y % 256 → x ≡ y
same32 x y h k p q r s = omega (arith, four_of x h, four_of y k)

-- the same at any place of a list
pub be16_at16 : (bs : List ℕ) (i : ℕ) → ((j : ℕ) → get_or bs j 0 < 256) → be16 (at16 bs i) ≡ get_or bs i 0 ∷ get_or bs (i + 1) 0 ∷ []
be16_at16 bs i h = be16_two (get_or bs i 0) (get_or bs (i + 1) 0) (h i) (h (i + 1))

pub be32_at32 : (bs : List ℕ) (i : ℕ) → ((j : ℕ) → get_or bs j 0 < 256) → be32 (at32 bs i) ≡ get_or bs i 0 ∷ get_or bs (i + 1) 0 ∷ get_or bs (i + 2) 0 ∷ get_or bs (i + 2 + 1) 0 ∷ []
be32_at32 bs i h = be32_four (get_or bs i 0) (get_or bs (i + 1) 0) (get_or bs (i + 2) 0) (get_or bs (i + 2 + 1) 0) (h i) (h (i + 1)) (h (i + 2)) (h (i + 2 + 1))

pub at16_after : (front bs : List ℕ) (i : ℕ) → at16 (front ++ bs) (length front + i) ≡ at16 bs i
at16_after front bs i =
    let a = get_or-append-add front bs i 0 in
    let b = get_or-append-add front bs (i + 1) 0 in
    let c = add_assoc (length front) i 1 in
    cc

pub at32_after : (front bs : List ℕ) (i : ℕ) → at32 (front ++ bs) (length front + i) ≡ at32 bs i
at32_after front bs i =
    let a = at16_after front bs i in
    let b = at16_after front bs (i + 2) in
    let c = add_assoc (length front) i 2 in
    cc

-- what stands from an offset on, read in the whole list
pub at16_drop : (bs : List ℕ) (offset i : ℕ) → at16 (drop offset bs) i ≡ at16 bs (offset + i)
at16_drop bs offset i =
    let a = get_or-drop offset bs i 0 in
    let b = get_or-drop offset bs (i + 1) 0 in
    let c = add_assoc offset i 1 in
    cc

pub at32_drop : (bs : List ℕ) (offset i : ℕ) → at32 (drop offset bs) i ≡ at32 bs (offset + i)
at32_drop bs offset i =
    let a = at16_drop bs offset i in
    let b = at16_drop bs offset (i + 2) in
    let c = add_assoc offset i 2 in
    cc
