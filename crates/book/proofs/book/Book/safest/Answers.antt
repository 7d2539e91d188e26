use Rattle.std.proofs.Common.{[], ◌∷◌, refl}
use Rattle.tables.specs.Standing.{route_of}
use Rattle.book.proofs.book.Book.safest.Goals as goal

pub returns-clause-right : goal.returns-clause-right
returns-clause-right g c =
    let keeps = c.args.self.now.keeps in
    let p = c.in_ok-plan.plan in
    let q = c.in_ok-question.ensures.question in
    let safe = (rw (c.in_ok-plan.ensures.ok_part, q.0, q.1, q.2, q.3, q.4) at c.safest_at.ensures) keeps in
    rw c.write_pair.ensures.answer (record {
      right = ((c.in_ok-question.ensures.places.0, (c.in_ok-check_rate.ensures.0, (c.in_ok-check_lists.ensures.0, ((λ none. none (route_of p.first ∷ route_of p.second ∷ []) safe.choice), tt)))), (refl, safe));
      told_ledger = refl;
      keeps = keeps;
    })
