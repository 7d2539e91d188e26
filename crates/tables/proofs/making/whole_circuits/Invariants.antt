use Rattle.std.proofs.Common.{◌≡◌, ◌++◌, drop, map, vec_items}
use Rattle.network.specs.declared.register.Circuit.{Circuit}
use Rattle.tables.proofs.making.whole_circuits.Given as goal

-- the circuits told so far are whole, and the others are still to come
abbrev pub invariant-loop-circuit : goal.invariant-loop-circuit
invariant-loop-circuit g l =
    (l.yielded ++ drop l.circuit-iterator.left.start (g.R.Register.network l.circuit-iterator.register.now).circuits ≡ (g.R.Register.network l.fn.register).circuits)
    × (vec_items l.whole ≡ map (λ (c : Circuit). record { left = c.bandwidth }) l.yielded)
