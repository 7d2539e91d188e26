-- The bandwidth of a pair, as the literature on tunable survivability defines it. Assumes nothing.
use Rattle.std.specs.Prelude.{◌≡◌, ℕ, ◌*◌, ◌≤◌, true, false, ◌⊎◌, List, [], ◌∷◌}
use Rattle.network.specs.Network.{Network}
use Rattle.network.specs.Routes.{uses, Route}
use Rattle.promise.specs.declared.Mode.{Mode}
use Rattle.promise.specs.declared.Mode.TheVariants.{OnePlusOne, OneToOne}
use Rattle.promise.specs.Ledger.{Ledger, left, Open, Carries}

module _ (n : Network) (l : Ledger) (first second : List ℕ) where
  -- both routes use the circuit; one of them does, and the other does not
  abbrev pub InBoth : ℕ → Type 0
  InBoth c = (uses c first ≡ true) × (uses c second ≡ true)

  abbrev pub InOne : ℕ → Type 0
  InOne c = ((uses c first ≡ true) × (uses c second ≡ false)) ⊎ ((uses c first ≡ false) × (uses c second ≡ true))

  -- In 1+1 mode twice b is at most what is left on each circuit of both routes, and b is at most what is left on each
  -- circuit of one. In 1:1 mode b is at most what is left on every circuit used.
  abbrev pub Allows : Mode → ℕ → Type 0
  Allows OnePlusOne b = (c : ℕ) → (InBoth c → 2 * b ≤ left n l c) × (InOne c → b ≤ left n l c)
  Allows OneToOne b = (c : ℕ) → (InBoth c → b ≤ left n l c) × (InOne c → b ≤ left n l c)

  -- the largest that the pair allows
  pub record Bandwidth (m : Mode) (b : ℕ) : Type 0 where
    pub allowed : Allows m b
    pub largest : (b' : ℕ) → Allows m b' → b' ≤ b

  -- every circuit that the pair uses is open
  abbrev pub AllOpen : Type 0
  AllOpen = (c : ℕ) → (uses c first ≡ true) ⊎ (uses c second ≡ true) → Open l c

-- A pair of routes has a bandwidth, and where its circuits are open it can carry just the rates up to it.
abbrev pub CarriesUpToBandwidth : Type 0
CarriesUpToBandwidth =
    (n : Network) (l : Ledger) (m : Mode) (a b : ℕ) (first second : List ℕ) → Route n a b first → Route n a b second
    → (w : ℕ) × Bandwidth n l first second m w × (AllOpen n l first second → (r : ℕ) → (Carries n l m r (first ∷ second ∷ []) → r ≤ w) × (r ≤ w → Carries n l m r (first ∷ second ∷ [])))
