-- A test of whether two ledgers are the same. Assumes nothing.
use Rattle.std.proofs.Common.{◌≡◌, ℕ, Bool, true, false, ◌&&◌, eqb, List, [], ◌∷◌, refl}
use Rattle.std.proofs.lemmas.Bool.{and_parts, both_ways, eqb-true}
use Rattle.promise.specs.declared.Mode.{Mode}
use Rattle.promise.specs.declared.Mode.TheVariants.{OnePlusOne, OneToOne}
use Rattle.promise.specs.Ledger.{Feed, Notice, Ledger}

-- the same elements in the same order
abbrev all_same? : {A : Type 0} → (A → A → Bool) → List A → List A → Bool
all_same? same? [] [] = true
all_same? same? [] (y ∷ ys) = false
all_same? same? (x ∷ xs) [] = false
all_same? same? (x ∷ xs) (y ∷ ys) = same? x y && all_same? same? xs ys

all_same : {A : Type 0} (same? : A → A → Bool) → ((x y : A) → same? x y ≡ true → x ≡ y) → (xs ys : List A) → all_same? same? xs ys ≡ true → xs ≡ ys
all_same same? f [] [] h = refl
all_same same? f [] (y ∷ ys) h = absurd (both_ways false refl h)
all_same same? f (x ∷ xs) [] h = absurd (both_ways false refl h)
all_same same? f (x ∷ xs) (y ∷ ys) h =
    let p = and_parts (same? x y) (all_same? same? xs ys) h in
    let e = f x y p.0 in let es = all_same same? f xs ys p.1 in
    λ i. e i ∷ es i

abbrev mode? : Mode → Mode → Bool
mode? OnePlusOne OnePlusOne = true
mode? OnePlusOne OneToOne = false
mode? OneToOne OnePlusOne = false
mode? OneToOne OneToOne = true

mode_same : (x y : Mode) → mode? x y ≡ true → x ≡ y
mode_same OnePlusOne OnePlusOne h = refl
mode_same OnePlusOne OneToOne h = absurd (both_ways false refl h)
mode_same OneToOne OnePlusOne h = absurd (both_ways false refl h)
mode_same OneToOne OneToOne h = refl

abbrev circuits? : List ℕ → List ℕ → Bool
circuits? xs ys = all_same? eqb xs ys

-- places, rate and mode; the pair
abbrev order? : Feed → Feed → Bool
order? x y = (eqb x.from y.from && eqb x.to y.to) && (eqb x.rate y.rate && mode? x.mode y.mode)

abbrev routes? : Feed → Feed → Bool
routes? x y = circuits? x.first y.first && circuits? x.second y.second

abbrev feed? : Feed → Feed → Bool
feed? x y = eqb x.number y.number && (order? x y && routes? x y)

feed_same : (x y : Feed) → feed? x y ≡ true → x ≡ y
feed_same x y h =
    let p = and_parts (eqb x.number y.number) (order? x y && routes? x y) h in
    let q = and_parts (order? x y) (routes? x y) p.1 in
    let o = and_parts (eqb x.from y.from && eqb x.to y.to) (eqb x.rate y.rate && mode? x.mode y.mode) q.0 in
    let ends = and_parts (eqb x.from y.from) (eqb x.to y.to) o.0 in
    let how = and_parts (eqb x.rate y.rate) (mode? x.mode y.mode) o.1 in
    let r = and_parts (circuits? x.first y.first) (circuits? x.second y.second) q.1 in
    let number = eqb-true x.number y.number p.0 in
    let from = eqb-true x.from y.from ends.0 in
    let to = eqb-true x.to y.to ends.1 in
    let rate = eqb-true x.rate y.rate how.0 in
    let mode = mode_same x.mode y.mode how.1 in
    let first = all_same eqb eqb-true x.first y.first r.0 in
    let second = all_same eqb eqb-true x.second y.second r.1 in
    λ i. record { number = number i; from = from i; to = to i; rate = rate i; mode = mode i; first = first i; second = second i }

abbrev notice? : Notice → Notice → Bool
notice? x y = eqb x.number y.number && eqb x.circuit y.circuit

notice_same : (x y : Notice) → notice? x y ≡ true → x ≡ y
notice_same x y h =
    let p = and_parts (eqb x.number y.number) (eqb x.circuit y.circuit) h in
    let number = eqb-true x.number y.number p.0 in let circuit = eqb-true x.circuit y.circuit p.1 in
    λ i. record { number = number i; circuit = circuit i }

abbrev pub ledger? : Ledger → Ledger → Bool
ledger? x y = all_same? feed? x.feeds y.feeds && all_same? notice? x.notices y.notices

pub ledger_same : (x y : Ledger) → ledger? x y ≡ true → x ≡ y
ledger_same x y h =
    let p = and_parts (all_same? feed? x.feeds y.feeds) (all_same? notice? x.notices y.notices) h in
    let feeds = all_same feed? feed_same x.feeds y.feeds p.0 in let notices = all_same notice? notice_same x.notices y.notices p.1 in
    λ i. record { feeds = feeds i; notices = notices i }
