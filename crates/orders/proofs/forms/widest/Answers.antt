use Rattle.std.proofs.Common.{refl, arith}
use Rattle.words.specs.Figures.{texts}
use Rattle.orders.proofs.Saying.{reads_refused, shape_4, widest_at}
use Rattle.orders.proofs.forms.widest.Goals as goal

pub returns-in_err-from : goal.returns-in_err-from
returns-in_err-from g c =
    reads_refused _ _ c.from_residual.ensures.0
    (λ s h.
    let x = widest_at g.S.Limit.spells (texts c.args.names.now) (texts c.args.args.now) s h _ _ _ _ (shape_4 c.args.args.now _ (omega arith)) in
    c.in_err-from.ensures (h.4, h.5) (x.0, x.1))

pub returns-in_err-limit : goal.returns-in_err-limit
returns-in_err-limit g c =
    reads_refused _ _ c.from_residual-in_err-limit.ensures.0
    (λ s h. c.in_err-limit.ensures h.7 (widest_at g.S.Limit.spells (texts c.args.names.now) (texts c.args.args.now) s h _ _ _ _ (shape_4 c.args.args.now _ (omega arith))).3)

pub returns : goal.returns
returns g c =
    (_, _, _, _, _, _, _, _, shape_4 c.args.args.now _ (omega arith), c.in_ok-from.ensures.0, c.in_ok-from.ensures.1, c.in_ok-mode.ensures, c.in_ok-limit.ensures, refl)
