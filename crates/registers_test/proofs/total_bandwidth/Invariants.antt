use Rattle.std.proofs.Common.{◌≡◌, ◌*◌, ◌≤◌, ◌++◌, drop, length, sum_by}
use Rattle.registers_test.proofs.total_bandwidth.Given as goal

-- the circuits told so far are counted, none above the limit, and the others are still to come
abbrev pub invariant-loop-circuit : goal.invariant-loop-circuit
invariant-loop-circuit g l =
    (l.yielded ++ drop l.circuit-iterator.left.start (g.R.Register.network l.circuit-iterator.register.now).circuits ≡ (g.R.Register.network l.fn.register).circuits)
    × (l.total ≡ sum_by (λ c. c.bandwidth) l.yielded)
    × (l.total ≤ 64000000 * length l.yielded)
