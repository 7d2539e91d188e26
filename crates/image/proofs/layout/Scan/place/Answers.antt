use Rattle.std.proofs.Common.{rules}
use Rattle.image.proofs.Loading.{place_refused, place_twice, place_taken}
use Rattle.image.proofs.layout.Scan.place.Goals as goal

pub returns-in_default-get : goal.returns-in_default-get
returns-in_default-get c =
    let s = c.args.self.now in
    place_refused s.image.now s.layout s.so_far c.rest-rest.result.now c.rest-rest.ensures 1 c.requires (search rules)

pub returns-then-repeats : goal.returns-then-repeats
returns-then-repeats c =
    let s = c.args.self.now in
    place_twice s.image.now s.layout s.so_far c.rest-rest.result.now c.rest-rest.ensures c.in-Some.field-0.now c.in-Some-get.name.now c.requires (search rules) (search rules) (search rules) (search rules) (search rules) (search rules) (search rules) (search rules)

pub invariant_of-result-clause-so_far : goal.invariant_of-result-clause-so_far
invariant_of-result-clause-so_far c =
    let s = c.args.self.now in
    place_taken s.image.now s.layout s.so_far c.rest-rest.result.now c.rest-rest.ensures c.in-Some.field-0.now c.in-Some-get.name.now c.requires (search rules) (search rules) (search rules) (search rules) (search rules) (search rules) (search rules) _ (search rules) (search rules)
