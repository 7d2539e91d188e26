use Rattle.std.proofs.Common.{◌≡◌, None, sym, subst}
use Rattle.words.specs.Figures.{Found, Named, texts}
use Rattle.words.proofs.Founding.{found_nothing}
use Rattle.words.proofs.Naming.{named_found, named_number}
use Rattle.words.proofs.figures.named.Goals as goal

pub returns-in_err-first_named : goal.returns-in_err-first_named
returns-in_err-first_named c =
    found_nothing _ _ c.from_residual.ensures
    (λ x h. let none : c.first_named.result ≡ None = c.in_err-first_named.was in cc (named_found c.args.names.now c.args.word.now x h))

pub returns : goal.returns
returns c =
    subst (λ r. Found r (Named (texts c.args.names.now) c.args.word.now)) (sym c.ok.ensures.value)
    (named_number c.args.names.now c.args.word.now c.in_ok-first_named.field-0 c.try_from.result (sym c.in_ok-first_named.ensures) c.try_from.ensures)
