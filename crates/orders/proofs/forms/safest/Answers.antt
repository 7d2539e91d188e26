use Rattle.std.proofs.Common.{refl, arith}
use Rattle.words.specs.Figures.{texts}
use Rattle.orders.proofs.Saying.{reads_refused, shape_4, safest_at}
use Rattle.orders.proofs.forms.safest.Goals as goal

pub returns-in_err-ask : goal.returns-in_err-ask
returns-in_err-ask g c =
    reads_refused _ _ c.from_residual.ensures.0
    (λ s h. c.in_err-ask.ensures h.4 (safest_at g.S.Limit.spells (texts c.args.names.now) (texts c.args.args.now) s h _ _ _ _ (shape_4 c.args.args.now _ (omega arith))))

pub returns : goal.returns
returns g c = (_, _, _, _, _, shape_4 c.args.args.now _ (omega arith), c.in_ok-ask.ensures, refl)
