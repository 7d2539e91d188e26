-- The ledger: what the accepted calls have come to. It knows the network, and is told each call and its answer alone. Assumes nothing.
use Rattle.std.specs.Prelude.{ℕ, ◌+◌, ◌-◌, ◌*◌, ◌<◌, ◌≤◌, cond, ◌||◌, List, [], ◌∷◌, ◌≢◌}
use Rattle.promise.specs.declared.Mode.{Mode}
use Rattle.promise.specs.declared.Mode.TheVariants.{OnePlusOne, OneToOne}
use Rattle.network.specs.Network.{Network, circuit}
use Rattle.network.specs.Routes.{Each, uses, times, RouteSet}

pub record Feed : Type 0 where
  pub number : ℕ
  pub from : ℕ
  pub to : ℕ
  pub rate : ℕ
  pub mode : Mode
  pub first : List ℕ
  pub second : List ℕ

pub record Notice : Type 0 where
  pub number : ℕ
  pub circuit : ℕ

pub record Ledger : Type 0 where
  pub feeds : List Feed
  pub notices : List Notice

abbrev pub nothing_yet : Ledger
nothing_yet = record { feeds = []; notices = [] }

-- what a pair takes on a circuit at a rate: in 1+1 mode the rate once for each route that uses it, in 1:1 mode once
abbrev pub takes : Mode → ℕ → List ℕ → List ℕ → ℕ → ℕ
takes OnePlusOne rate first second c = times c (first ∷ second ∷ []) * rate
takes OneToOne rate first second c = cond (uses c first || uses c second) rate 0

abbrev pub taken : List Feed → ℕ → ℕ
taken [] c = 0
taken (f ∷ fs) c = takes f.mode f.rate f.first f.second c + taken fs c

-- the bandwidth left on a circuit: the register's, less what the feeds take
abbrev pub left : Network → Ledger → ℕ → ℕ
left n l c = (circuit n c).bandwidth - taken l.feeds c

-- no standing notice names the circuit
abbrev pub Open : Ledger → ℕ → Type 0
Open l c = Each (λ (x : Notice). x.circuit ≢ c) l.notices

abbrev pub Usable : Network → Ledger → ℕ → ℕ → Type 0
Usable n l rate c = Open l c × (rate ≤ left n l c)

-- the mode's rule for a circuit that so many routes use
abbrev pub Rule : Mode → ℕ → ℕ → ℕ → Type 0
Rule OnePlusOne rate routes left = routes * rate ≤ left
Rule OneToOne rate routes left = Unit {0}

-- the set can carry the rate
abbrev pub Carries : Network → Ledger → Mode → ℕ → List (List ℕ) → Type 0
Carries n l m rate rs = (c : ℕ) → 0 < times c rs → Usable n l rate c × Rule m rate (times c rs) (left n l c)

-- a set of routes from a to b that can carry the rate
abbrev pub Choice : Network → Ledger → ℕ → ℕ → Mode → ℕ → List (List ℕ) → Type 0
Choice n l a b m rate rs = RouteSet n a b rs × Carries n l m rate rs
