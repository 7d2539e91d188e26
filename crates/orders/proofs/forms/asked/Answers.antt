use Rattle.orders.proofs.Saying.{reads_refused}
use Rattle.orders.proofs.forms.asked.Goals as goal

pub returns-in_err-from : goal.returns-in_err-from
returns-in_err-from c =
    reads_refused _ _ c.from_residual.ensures.0
    (λ a h. c.in_err-from.ensures (a.from, a.to) (h.0, h.1))
