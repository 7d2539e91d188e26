-- A network that never changes, and the sum that a reader takes of any network. Assumes nothing.
use Rattle.std.specs.Prelude.{ℕ, zero, suc, ◌<◌, [], ◌∷◌, sum_by}
use Rattle.std.proofs.Common.{arith}
use Rattle.network.specs.declared.register.Circuit.{Circuit}
use Rattle.network.specs.Network.{Network, Sound, Proper, circuit}

-- the one circuit, from place 0 to place 1
abbrev pub only : Circuit
only = record { from = 0; to = 1; bandwidth = 10000; cost = 3 }

-- two places, and the one circuit between them
abbrev pub constant : Network
constant = record { places = 2; circuits = only ∷ [] }

only_sound : Sound 2 only
only_sound = record { from_place = omega arith; to_place = omega arith; apart = λ e. omega (arith, e); some_bandwidth = omega arith; most_bandwidth = omega arith; most_cost = omega arith }

sound_at : (c : ℕ) → c < 1 → Sound 2 (circuit constant c)
sound_at zero h = only_sound
sound_at (suc c) h = absurd (omega (arith, h))

-- it keeps the limits of a register
pub constant_proper : Proper constant
constant_proper = record { few_places = omega arith; few_circuits = omega arith; each = sound_at }

-- the bandwidth of all circuits together
abbrev pub all_bandwidth : Network → ℕ
all_bandwidth n = sum_by (λ c. c.bandwidth) n.circuits
