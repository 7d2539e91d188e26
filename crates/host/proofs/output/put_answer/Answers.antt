use Rattle.std.proofs.Common.{◌+◌, ◌*◌, ◌++◌, length, refl, ap, ◌∙◌, arith}
use Rattle.image_format.specs.Image.{be16, be32}
use Rattle.host.specs.Layout.{route_bytes, answer_bytes, with_bytes}
use Rattle.host.proofs.Writing.{at_start, more_bytes, route_length}
use Rattle.host.proofs.output.put_answer.Goals as goal

pub returns : goal.returns
returns c =
    let buffer = c.args.output.now in
    let first = c.args.first.now in
    let second = c.args.second.now in
    let lengths = be16 (length first) ++ be16 (length second) in
    let figures = lengths ++ be32 c.args.cost in
    let long = route_length first in
    let n = c.put.ensures ∙ ap (with_bytes buffer 0) c.to_be_bytes.ensures in
    let m = c.put-2.ensures ∙ ap (with_bytes c.put.new.output 2) c.to_be_bytes-2.ensures in
    let cost = c.put-3.ensures ∙ ap (with_bytes c.put-2.new.output 4) c.to_be_bytes-3.ensures in
    let a = more_bytes buffer c.put.new.output c.put-2.new.output 0 (be16 (length first)) (be16 (length second)) 2 n m (omega arith) refl in
    let b = more_bytes buffer c.put-2.new.output c.put-3.new.output 0 lengths (be32 c.args.cost) 4 a cost (omega arith) refl in
    let d = more_bytes buffer c.put-3.new.output c.put_route.new.output 0 figures (route_bytes first) 8 b c.put_route.ensures (omega arith) refl in
    at_start (answer_bytes first second c.args.cost) buffer c.put_route-2.new.output (more_bytes buffer c.put_route.new.output c.put_route-2.new.output 0 (figures ++ route_bytes first) (route_bytes second) (8 + 2 * length first) d c.put_route-2.ensures (omega arith) (omega arith))
