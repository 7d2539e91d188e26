use Rattle.std.proofs.Common.{refl, arith}
use Rattle.words.specs.Figures.{texts}
use Rattle.orders.proofs.Saying.{reads_refused, shape_6, book_at}
use Rattle.orders.proofs.forms.book.Goals as goal

pub returns-in_err-ask : goal.returns-in_err-ask
returns-in_err-ask g c =
    reads_refused _ _ c.from_residual-in_err-ask.ensures.0
    (λ s h. c.in_err-ask.ensures h.7 (book_at g.S.Limit.spells (texts c.args.names.now) (texts c.args.args.now) s h _ _ _ _ _ _ (shape_6 c.args.args.now _ (omega arith))).1)

pub returns-in_err-limit : goal.returns-in_err-limit
returns-in_err-limit g c =
    reads_refused _ _ c.from_residual-in_err-limit.ensures.0
    (λ s h. c.in_err-limit.ensures h.8 (book_at g.S.Limit.spells (texts c.args.names.now) (texts c.args.args.now) s h _ _ _ _ _ _ (shape_6 c.args.args.now _ (omega arith))).2)

pub returns : goal.returns
returns g c =
    (_, _, _, _, _, _, _, _, _, shape_6 c.args.args.now _ (omega arith), c.in_ok-feed.ensures, c.in_ok-ask.ensures, c.in_ok-limit.ensures, refl)
