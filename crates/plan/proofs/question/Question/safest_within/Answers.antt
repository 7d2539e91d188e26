use Rattle.std.proofs.Common.{sym, ap, ◌∙◌}
use Rattle.plan.proofs.Rates.{beyond}
use Rattle.plan.proofs.question.Question.safest_within.Goals as goal

pub returns-else-at_most : goal.returns-else-at_most
returns-else-at_most g c =
    λ keeps.
    let p = c.in_ok-plan.plan in
    beyond _ g.met.S.Scale.lawful _ _ _ _ _ _ (g.R.Register.proper _) c.held-limit.ensures.value _ p (rw c.in_ok-plan.ensures.ok_part at (c.safest_at.ensures keeps))
    (ap (λ x. g.S.Scale.measure.at_most p.cost x) (sym c.held-limit.ensures.same) ∙ sym c.if-at_most.ensures)
