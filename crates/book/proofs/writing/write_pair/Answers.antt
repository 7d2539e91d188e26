use Rattle.std.proofs.Common.{arith}
use Rattle.promise.specs.Promise.{pair}
use Rattle.tables.specs.Standing.{route_of}
use Rattle.book.proofs.Planning.{written}
use Rattle.book.proofs.writing.write_pair.Goals as goal

pub returns : goal.returns
returns g c =
    let p = c.args.plan.now in
    let first = written p.first.length (route_of p.first) c.args.first.now c.write_route.new.list (omega (arith, p.first.short, c.requires.first)) c.write_route.auto.list c.write_route.ensures in
    let second = written p.second.length (route_of p.second) c.args.second.now c.write_route-2.new.list (omega (arith, p.second.short, c.requires.second)) c.write_route-2.auto.list c.write_route-2.ensures in
    record {
      answer = λ i. pair c.args.rate (first.0 i) (second.0 i) p.cost;
      lists = (p.first.short, p.second.short, first.1, second.1);
    }
