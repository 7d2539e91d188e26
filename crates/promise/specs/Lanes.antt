-- From a network and a ledger to arcs with lanes: how many of two routes may use each circuit. Assumes nothing.
use Rattle.std.specs.Prelude.{◌≡◌, ℕ, ◌*◌, ◌<◌, ◌⊎◌, List, length}
use Rattle.search.specs.declared.Arc.{Arc}
use Rattle.network.specs.Network.{Network, circuit}
use Rattle.promise.specs.declared.Mode.{Mode}
use Rattle.promise.specs.declared.Mode.TheVariants.{OnePlusOne, OneToOne}
use Rattle.promise.specs.Ledger.{Ledger, left, Usable}
use Rattle.search.specs.Graph.{arc}

-- the mode lets only one of two routes use a circuit with that much left
abbrev pub Narrow : Mode → ℕ → ℕ → Type 0
Narrow OnePlusOne rate left = left < 2 * rate
Narrow OneToOne rate left = ⊥

-- so many of two routes may use the circuit
abbrev pub Lane : Network → Ledger → Mode → ℕ → ℕ → ℕ → Type 0
Lane n l m rate c lanes = ((lanes ≡ 0) × (Usable n l rate c → ⊥)) ⊎ (((lanes ≡ 1) × Usable n l rate c × Narrow m rate (left n l c)) ⊎ ((lanes ≡ 2) × Usable n l rate c × (Narrow m rate (left n l c) → ⊥)))

-- the arc stands for the circuit
pub record StandsFor (n : Network) (l : Ledger) (m : Mode) (rate c : ℕ) (x : Arc) : Type 0 where
  pub from_same : x.from ≡ (circuit n c).from
  pub to_same : x.to ≡ (circuit n c).to
  pub lane : Lane n l m rate c x.lanes

-- the arcs stand for the circuits, one for each
pub record Lanes (n : Network) (l : Ledger) (m : Mode) (rate : ℕ) (g : List Arc) : Type 0 where
  pub same_length : length g ≡ length n.circuits
  pub each : (c : ℕ) → c < length g → StandsFor n l m rate c (arc g c)
