use Rattle.std.proofs.Common.{◌+◌, sym, refl, subst, arith, below_more}
use Rattle.std.proofs.lemmas.Bool.{eqb-false}
use Rattle.words.specs.Decimals.{SoFar, so_far_more, digit_fits, number_read}
use Rattle.words.proofs.Founding.{found_nothing}
use Rattle.words.proofs.figures.number.Goals as goal

pub returns-in_err-n : goal.returns-in_err-n
returns-in_err-n c =
    found_nothing _ _ c.from_residual.ensures
    (λ x h.
    let f = digit_fits c.args.word.now c.loop-b.n c.loop-b.b-index x c.loop-b-test.true c.loop-b.invariant.1 h in
    c.in_err-n.ensures _ (f.0, refl, f.1))

pub loop-b-preserved : goal.loop-b-preserved
loop-b-preserved c =
    let r = c.in_ok-n.ensures in (
      below_more _ _ c.loop-b.invariant.0 r.0,
      subst (λ m. SoFar c.args.word.now m (c.loop-b.b-index + 1)) (sym r.1) (so_far_more c.args.word.now c.loop-b.n c.loop-b.b-index c.loop-b-test.true c.loop-b.invariant.1),
      r.2,
    )

pub returns : goal.returns
returns c =
    number_read c.args.word.now c.loop-b.n c.loop-b.b-index (omega (arith, eqb-false _ _ (sym c.if-is_empty.ensures))) c.loop-b-test.false c.loop-b.invariant.0 c.loop-b.invariant.1 c.loop-b.invariant.2
