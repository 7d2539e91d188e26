use Rattle.orders.proofs.Saying.{reads_refused}
use Rattle.orders.proofs.forms.places.Goals as goal

pub returns-in_err-first : goal.returns-in_err-first
returns-in_err-first c =
    reads_refused _ _ c.from_residual.ensures.0
    (λ v h. c.in_err-first.ensures v.0 h.0)

pub returns-in_err-second : goal.returns-in_err-second
returns-in_err-second c =
    reads_refused _ _ c.from_residual-in_err-second.ensures.0
    (λ v h. c.in_err-second.ensures v.1 h.1)
