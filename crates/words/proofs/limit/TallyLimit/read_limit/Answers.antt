use Rattle.std.proofs.Common.{length, sym, subst}
use Rattle.std.proofs.lemmas.List.{take_rest}
use Rattle.words.specs.Figures.{Numeral}
use Rattle.words.proofs.Founding.{found_nothing}
use Rattle.words.specs.Tallies.{tally_colon, tally_parts}
use Rattle.words.proofs.limit.TallyLimit.read_limit.Goals as goal

pub returns-in_err-i : goal.returns-in_err-i
returns-in_err-i c =
    found_nothing _ _ c.from_residual.ensures
    (λ v h. c.in_err-i.ensures (length h.0) (tally_colon c.args.word.now v h))

pub returns-in_err-count : goal.returns-in_err-count
returns-in_err-count c =
    found_nothing _ _ c.from_residual-in_err-count.ensures
    (λ v h. c.in_err-count.ensures v.0 (tally_parts c.args.word.now _ v c.in_ok-i.ensures h).0)

pub returns-in_err-total : goal.returns-in_err-total
returns-in_err-total c =
    found_nothing _ _ c.from_residual-in_err-total.ensures
    (λ v h. c.in_err-total.ensures v.1 (subst (λ w. Numeral 32 w v.1) (sym (take_rest c.args.word.now _)) (tally_parts c.args.word.now _ v c.in_ok-i.ensures h).1))
