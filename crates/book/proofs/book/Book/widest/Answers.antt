use Rattle.std.proofs.Common.{refl, arith}
use Rattle.std.proofs.lemmas.Grind.{common_steps}
use Rattle.promise.proofs.Plans.{not_no_pair, not_none_within}
use Rattle.tables.specs.Standing.{ledger_of, route_of}
use Rattle.book.proofs.book.Book.widest.Goals as goal

pub returns-clause-right : goal.returns-clause-right
returns-clause-right g c =
    let keeps = c.args.self.now.keeps in
    let n = g.R.Register.network c.args.self.now.register in
    let s = g.S.Scale.measure in
    let l = ledger_of c.args.self.now.tables in
    let p = c.in_ok-rate.plan in
    let r = c.in_ok-rate.rate in
    let q = c.in_ok-question.ensures.question in
    let wide = (rw (q.0, q.1, q.2, q.3, q.4) at c.in_ok-rate.ensures) keeps in
    let f = route_of p.first in
    let h = route_of p.second in
    let lawful = g.met.S.Scale.lawful in
    rw c.write_pair.ensures.answer (record {
      right = ((c.in_ok-question.ensures.places.0, (c.in_ok-check_lists.ensures.0, ((λ none. not_no_pair s lawful n l c.args.from c.args.to c.args.mode r 1 f h p.cost wide.safest_pair wide.some none), ((λ none. not_none_within s lawful n l c.args.from c.args.to c.args.mode r 1 f h p.cost c.args.limit wide.safest_pair wide.within wide.some none), tt)))), wide);
      told_ledger = refl;
      keeps = keeps;
    })

pub returns-in_err-rate-clause-right : goal.returns-in_err-rate-clause-right
returns-in_err-rate-clause-right g c =
    let q = c.in_ok-question.ensures.question in
    let none = (rw (q.0, q.1, q.2, q.3, q.4) at c.in_err-rate.ensures) c.args.self.now.keeps in
    grind (arith, common_steps)
