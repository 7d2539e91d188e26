-- A scale that weighs nothing. Assumes nothing.
use Rattle.std.specs.Prelude.{true, refl}
use Rattle.std.proofs.Common.{inl}
use Rattle.scale.specs.Measure.{Measure, Lawful}

-- one value only, so that all values are equal
abbrev pub even : Measure (Unit {0})
even = record { value = λ x. Unit {0}; zero = tt; weight = λ c. tt; join = λ x y. tt; at_most = λ x y. true }

pub even_lawful : Lawful even
even_lawful = record {
  zero_value = tt;
  weight_value = λ c h. tt;
  join_value = λ x y p q. tt;
  compares = λ x y p q. inl refl;
  transitive = λ x y z p q r a b. refl;
  associative = λ x y z p q r. refl;
  commutative = λ x y p q. refl;
  neutral = λ x p. refl;
  least = λ x p. refl;
  keeps = λ x y z p q r a. refl;
}
