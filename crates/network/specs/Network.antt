-- A network: a number of places, and directed circuits between them. Assumes nothing.
use Rattle.std.specs.Prelude.{◌≡◌, ℕ, ◌<◌, ◌≤◌, ◌⊎◌, List, length, slice_index_or}
use Rattle.network.specs.declared.register.Circuit.{Circuit}

pub record Network : Type 0 where
  pub places : ℕ
  pub circuits : List Circuit

abbrev pub no_circuit : Circuit
no_circuit = record { from = 0; to = 0; bandwidth = 0; cost = 0 }

-- the circuit of a number
abbrev pub circuit : Network → ℕ → Circuit
circuit n c = slice_index_or n.circuits c no_circuit

-- what every circuit of a register keeps, among that many places
pub record Sound (places : ℕ) (c : Circuit) : Type 0 where
  pub from_place : c.from < places
  pub to_place : c.to < places
  pub apart : c.from ≡ c.to → ⊥
  pub some_bandwidth : 1 ≤ c.bandwidth
  pub most_bandwidth : c.bandwidth ≤ 64000000
  pub most_cost : c.cost ≤ 1000000

-- an end is no place, or both ends are equal
abbrev pub BadEnds : ℕ → Circuit → Type 0
BadEnds places c = (places ≤ c.from) ⊎ ((places ≤ c.to) ⊎ (c.from ≡ c.to))

-- a bandwidth of nothing or above 64,000,000 kbit/s, or a cost above 1,000,000
abbrev pub BadFigures : Circuit → Type 0
BadFigures c = (c.bandwidth < 1) ⊎ ((64000000 < c.bandwidth) ⊎ (1000000 < c.cost))

-- what every register keeps
pub record Proper (n : Network) : Type 0 where
  pub few_places : n.places ≤ 128
  pub few_circuits : length n.circuits ≤ 384
  pub each : (c : ℕ) → c < length n.circuits → Sound n.places (circuit n c)
