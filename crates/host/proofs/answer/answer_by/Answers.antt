use Rattle.std.proofs.Common.{length, take, refl, subst, inl}
use Rattle.scale.specs.ThreeScales.{total}
use Rattle.promise.specs.Promise.{Safest}
use Rattle.tables.specs.Standing.{ledger_of}
use Rattle.host.proofs.Asking.{order_passed}
use Rattle.host.proofs.Writing.{fronts_written}
use Rattle.host.proofs.answer.answer_by.Goals as goal

pub returns : goal.returns
returns g c =
    let n = g.R.Register.network c.args.book.now.register in
    let a = c.args.ask in
    let pair = c.in_ok-pair.pair in
    let right = c.in_ok-pair.ensures.right.right in
    inl (
      refl,
      record {
        passed = order_passed n a.from a.to a.rate a.mode c.args.output.now (length c.args.first.now) (length c.args.second.now) c.requires.lists c.requires.short c.requires.long (ledger_of c.args.book.now.tables) c.requires.unused right.0;
        first = take pair.lengths.0 c.safest.new.first;
        second = take pair.lengths.1 c.safest.new.second;
        cost = pair.cost;
        pair = subst (λ l. Safest total n l a.from a.to a.mode a.rate (take pair.lengths.0 c.safest.new.first) (take pair.lengths.1 c.safest.new.second) pair.cost) c.requires.unused right.1.1;
        written = fronts_written pair.lengths.0 pair.lengths.1 c.safest.new.first c.safest.new.second pair.cost c.args.output.now c.put_answer.new.output c.put_answer.ensures;
      },
    )
