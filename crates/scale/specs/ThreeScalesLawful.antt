-- The three scales are lawful. Assumes nothing.
use Rattle.std.specs.Prelude.{◌≡◌, ℕ, ◌+◌, ◌<◌, ◌≤◌, min, max, true, ◌&&◌, ◌⊎◌, ◌==◌, nat_le, nat_lt, refl}
use Rattle.std.proofs.Common.{inl, inr, arith}
use Rattle.std.proofs.lemmas.Bool.{leb-true, le-leb, ltb-true, lt-ltb, eq-eqb, eqb-true, cases_lt, and_parts, and_from, or_cases, or_left, or_right, cond_both}
use Rattle.std.proofs.lemmas.Bool.Decides.{nat_tests}
use Rattle.scale.specs.Measure.{Lawful}
use Rattle.scale.specs.ThreeScales.{most, numbers, total, worst, tally, tally_join, tally_at_most}

leb_total : (x y : ℕ) → (nat_le x y ≡ true) ⊎ (nat_le y x ≡ true)
leb_total x y = elim (cases_lt x y) [ inl h ↦ inl (le-leb x y (omega arith)) | inr h ↦ inr (le-leb y x h) ]

leb_trans : (x y z : ℕ) → nat_le x y ≡ true → nat_le y z ≡ true → nat_le x z ≡ true
leb_trans x y z p q = le-leb x z (omega (arith, leb-true x y p, leb-true y z q))

-- what a scale of numbers has to show: what joining is keeps to the numbers, and has the laws
numbers_lawful : (join : ℕ → ℕ → ℕ) → ((x y : ℕ) → x ≤ most → y ≤ most → join x y ≤ most) → ((x y z : ℕ) → x ≤ most → y ≤ most → z ≤ most → join (join x y) z ≡ join x (join y z)) → ((x y : ℕ) → join x y ≡ join y x) → ((x : ℕ) → x ≤ most → join 0 x ≡ x) → ((x y z : ℕ) → x ≤ y → join z x ≤ join z y) → Lawful (numbers join)
numbers_lawful join within associative commutative neutral keeps = record {
  zero_value = omega arith;
  weight_value = λ c h. omega arith;
  join_value = within;
  compares = λ x y p q. leb_total x y;
  transitive = λ x y z p q r. leb_trans x y z;
  associative = associative;
  commutative = λ x y p q. commutative x y;
  neutral = neutral;
  least = λ x p. le-leb 0 x (omega arith);
  keeps = λ x y z p q r h. le-leb (join z x) (join z y) (keeps x y z (leb-true x y h));
}

pub total_lawful : Lawful total
total_lawful =
    numbers_lawful (λ x y. min (x + y) most)
    (λ x y p q. omega arith) (λ x y z p q r. omega arith) (λ x y. omega arith) (λ x p. omega arith) (λ x y z h. omega arith)

pub worst_lawful : Lawful worst
worst_lawful =
    numbers_lawful max
    (λ x y p q. omega arith) (λ x y z p q r. omega arith) (λ x y. omega arith) (λ x p. omega arith) (λ x y z h. omega arith)

-- what a join of tallies is, as facts
Value : ℕ × ℕ → Type 0
Value x = (x.0 ≤ 65535) × (x.1 ≤ most)

Joined : ℕ × ℕ → ℕ × ℕ → ℕ × ℕ → Type 0
Joined x y z = ((x.0 + y.0 ≤ 65535) × (z.0 ≡ x.0 + y.0) × (z.1 ≡ min (x.1 + y.1) most)) ⊎ ((65535 < x.0 + y.0) × (z.0 ≡ 65535) × (z.1 ≡ most))

joins : (x y : ℕ × ℕ) → Joined x y (tally_join x y)
unfolding Joined
joins x y = cond_both (nat_le (x.0 + y.0) 65535) (x.0 + y.0, min (x.1 + y.1) most) (65535, most) (Joined x y)
    (λ e. inl (leb-true (x.0 + y.0) 65535 e, refl, refl))
    (λ e. inr (grind (arith, nat_tests), refl, refl))

Less : ℕ × ℕ → ℕ × ℕ → Type 0
Less x y = (x.0 < y.0) ⊎ ((x.0 ≡ y.0) × (x.1 ≤ y.1))

less : (x y : ℕ × ℕ) → tally_at_most x y ≡ true → Less x y
unfolding Less
less x y h = elim (or_cases (nat_lt x.0 y.0) (x.0 == y.0 && nat_le x.1 y.1) h) [
  | inl p ↦ inl (ltb-true x.0 y.0 p)
  | inr p ↦ let q = and_parts (x.0 == y.0) (nat_le x.1 y.1) p in inr (eqb-true x.0 y.0 q.0, leb-true x.1 y.1 q.1)
]

less_true : (x y : ℕ × ℕ) → Less x y → tally_at_most x y ≡ true
unfolding Less
less_true x y (inl p) = or_left (nat_lt x.0 y.0) (x.0 == y.0 && nat_le x.1 y.1) (lt-ltb x.0 y.0 p)
less_true x y (inr p) = or_right (nat_lt x.0 y.0) (x.0 == y.0 && nat_le x.1 y.1) (and_from (x.0 == y.0) (nat_le x.1 y.1) (eq-eqb x.0 y.0 p.0) (le-leb x.1 y.1 p.1))

pub pairs : (x y : ℕ × ℕ) → x.0 ≡ y.0 → x.1 ≡ y.1 → x ≡ y
pairs x y p q = λ i. (p i, q i)

total_order : (x y : ℕ × ℕ) → Less x y ⊎ Less y x
unfolding Less
total_order x y = grind arith

tally_value : (x y : ℕ × ℕ) → Value x → Value y → Value (tally_join x y)
unfolding Value Joined
tally_value x y p q = let a = joins x y in (omega arith, omega arith)

tally_associative : (x y z : ℕ × ℕ) → Value x → Value y → Value z → tally_join (tally_join x y) z ≡ tally_join x (tally_join y z)
unfolding Value Joined
tally_associative x y z p q r =
    let a = joins x y in let b = joins (tally_join x y) z in let c = joins y z in let d = joins x (tally_join y z) in
    pairs (tally_join (tally_join x y) z) (tally_join x (tally_join y z)) (omega arith) (omega arith)

tally_commutative : (x y : ℕ × ℕ) → tally_join x y ≡ tally_join y x
unfolding Joined
tally_commutative x y =
    let a = joins x y in let b = joins y x in pairs (tally_join x y) (tally_join y x) (omega arith) (omega arith)

tally_neutral : (x : ℕ × ℕ) → Value x → tally_join (0, 0) x ≡ x
unfolding Value Joined
tally_neutral x p = let a = joins (0, 0) x in pairs (tally_join (0, 0) x) x (omega arith) (omega arith)

tally_least : (x : ℕ × ℕ) → Less (0, 0) x
unfolding Less
tally_least x = grind arith

tally_transitive : (x y z : ℕ × ℕ) → Less x y → Less y z → Less x z
unfolding Less
tally_transitive x y z p q = grind arith

tally_keeps : (x y z : ℕ × ℕ) → Value x → Value y → Value z → Less x y → Less (tally_join z x) (tally_join z y)
unfolding Value Joined Less
tally_keeps x y z p q r h =
    let a = joins z x in let b = joins z y in
    elim (cases_lt (tally_join z x).0 (tally_join z y).0) [ inl k ↦ inl k | inr k ↦ inr (omega arith, omega arith) ]

pub tally_lawful : Lawful tally
unfolding Value
tally_lawful = record {
  zero_value = (omega arith, omega arith);
  weight_value = λ c h. (omega arith, omega arith);
  join_value = λ x y p q. tally_value x y p q;
  compares = λ x y p q. elim (total_order x y) [ inl h ↦ inl (less_true x y h) | inr h ↦ inr (less_true y x h) ];
  transitive = λ x y z p q r h k. less_true x z (tally_transitive x y z (less x y h) (less y z k));
  associative = tally_associative;
  commutative = λ x y p q. tally_commutative x y;
  neutral = tally_neutral;
  least = λ x p. less_true (0, 0) x (tally_least x);
  keeps = λ x y z p q r h. less_true (tally_join z x) (tally_join z y) (tally_keeps x y z p q r (less x y h));
}
