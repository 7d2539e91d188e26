use Rattle.std.proofs.Common.{rules, inr, arith}
use Rattle.network.specs.Refusals.{number_of}
use Rattle.image_format.specs.Image.{Refused}
use Rattle.image.specs.Layout.{end_of}
use Rattle.image.proofs.Loading.{circuit_refused, circuit_taken}
use Rattle.image.proofs.layout.Scan.circuit.Goals as goal

pub returns-in_err-check : goal.returns-in_err-check
returns-in_err-check c =
    let s = c.args.self.now in
    let told : Refused s.image.now (number_of c.in_err-check.field-0.0) (end_of s.layout) =
    circuit_refused s.image.now s.layout s.so_far c.rest-rest.result.now c.rest-rest.ensures (number_of c.in_err-check.field-0.0) c.read_circuit-circuit.result c.requires c.read_circuit-circuit.ensures (inr ((λ h. omega arith), inr ((λ h. omega arith), c.in_err-check.ensures))) in
    search rules

pub invariant_of-result : goal.invariant_of-result
invariant_of-result c =
    let s = c.args.self.now in
    record { bytes = s.bytes; so_far = circuit_taken s.image.now s.layout s.so_far c.rest-rest.result.now c.rest-rest.ensures c.read_circuit-circuit.result c.requires s.bytes c.read_circuit-circuit.ensures (search rules) }
