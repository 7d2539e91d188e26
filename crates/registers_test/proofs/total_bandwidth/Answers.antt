use Rattle.std.proofs.Common.{◌≡◌, List, ◌++◌, [], ◌∷◌, drop, arith}
use Rattle.std.proofs.lemmas.List.{append_assoc, length-append}
use Rattle.std.proofs.lemmas.List.Sums.{sum_by_push}
use Rattle.network.specs.declared.register.Circuit.{Circuit}
use Rattle.network.specs.Network.{Network}
use Rattle.network.proofs.Told.{told_sound}
use Rattle.registers_test.proofs.total_bandwidth.Goals as goal

-- the circuit that comes is counted, and it keeps the limit
pub loop-circuit-preserved : goal.loop-circuit-preserved
loop-circuit-preserved g c =
    let n : Network = g.R.Register.network c.args.register.now in
    let x : Circuit = c.in-Some.circuit in
    let told : List Circuit = c.loop-circuit.yielded in
    let rest : List Circuit = drop c.next.new.self.left.start (g.R.Register.network c.next.new.self.register.now).circuits in
    let e : told ++ x ∷ rest ≡ n.circuits = rw (← c.in-Some.ensures.steps) c.loop-circuit.invariant.0 in
    let s = told_sound n (g.R.Register.proper c.args.register.now) told rest x e in
    let more = sum_by_push (λ (k : Circuit). k.bandwidth) told x in (
      rw append_assoc e,
      omega (arith, more, c.loop-circuit.invariant.1),
      omega (arith, s.most_bandwidth, c.loop-circuit.invariant.2, length-append told (x ∷ [])),
    )
