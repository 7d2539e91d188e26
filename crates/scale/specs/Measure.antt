-- Scales: how the costs of shared circuits are weighed, joined and compared. Assumes nothing.
use Rattle.std.specs.Prelude.{◌≡◌, ℕ, ◌+◌, ◌≤◌, Bool, true, cond, ◌⊎◌, List, [], ◌∷◌}
use Rattle.network.specs.declared.register.Circuit.{Circuit}
use Rattle.network.specs.Network.{Network}
use Rattle.network.specs.Routes.{shared}

-- What a scale means. V is the type that holds its values; a 32-bit number of the code is any whole number here, so the
-- scale also says which of V are its values.
pub record Measure (V : Type 0) : Type 1 where
  -- x is a value of the scale: only of these do the laws speak
  pub value : V → Type 0
  -- what a set that shares nothing costs
  pub zero : V
  -- the value of one circuit, by its failure cost
  pub weight : ℕ → V
  -- two values put together
  pub join : V → V → V
  -- the first is no more than the second
  pub at_most : V → V → Bool

-- the first value is at most the second, as a fact
abbrev pub AtMost : {V : Type 0} → Measure V → V → V → Type 0
AtMost s x y = s.at_most x y ≡ true

-- The laws, which every scale has to show. Nothing more may be asked of one: so two different values may each be at most the
-- other, as on a scale where all values are equal.
pub record Lawful {V : Type 0} (s : Measure V) : Type 0 where
  -- zero is a value, and so is the weight of each cost that a register can have, and what two values join to
  pub zero_value : s.value s.zero
  pub weight_value : (c : ℕ) → c ≤ 1000000 → s.value (s.weight c)
  pub join_value : (x y : V) → s.value x → s.value y → s.value (s.join x y)
  -- any two values compare, and "at most" is transitive
  pub compares : (x y : V) → s.value x → s.value y → AtMost s x y ⊎ AtMost s y x
  pub transitive : (x y z : V) → s.value x → s.value y → s.value z → AtMost s x y → AtMost s y z → AtMost s x z
  -- joining is associative and commutative, and zero joined to a value gives that value
  pub associative : (x y z : V) → s.value x → s.value y → s.value z → s.join (s.join x y) z ≡ s.join x (s.join y z)
  pub commutative : (x y : V) → s.value x → s.value y → s.join x y ≡ s.join y x
  pub neutral : (x : V) → s.value x → s.join s.zero x ≡ x
  -- zero is at most every value
  pub least : (x : V) → s.value x → AtMost s s.zero x
  -- joining one value to both sides keeps "at most"
  pub keeps : (x y z : V) → s.value x → s.value y → s.value z → AtMost s x y → AtMost s (s.join z x) (s.join z y)

-- zero joined with the weight of each circuit of the list that the set rs shares, once each; the list's circuits are numbered from i on
abbrev pub joined : {V : Type 0} → Measure V → List (List ℕ) → ℕ → List Circuit → V
joined s rs i [] = s.zero
joined s rs i (c ∷ cs) = cond (shared i rs) (s.join (s.weight c.cost) (joined s rs (i + 1) cs)) (joined s rs (i + 1) cs)

-- the shared cost of the set rs: zero joined with the weight of each circuit of the network that it shares, once each
abbrev pub shared_cost : {V : Type 0} → Measure V → Network → List (List ℕ) → V
shared_cost s n rs = joined s rs 0 n.circuits
