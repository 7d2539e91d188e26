use Rattle.std.proofs.Common.{ℕ, ◌<◌, get_or}
use Rattle.network.specs.Network.{Sound, no_circuit}
use Rattle.network.proofs.table.TableRegister.load.Given as goal

-- every record so far is sound
abbrev pub invariant-loop-at : goal.invariant-loop-at
invariant-loop-at l = (i : ℕ) → i < l.at-counter → Sound l.places (get_or l.circuits i no_circuit)
