use Rattle.std.proofs.Common.{sym, subst}
use Rattle.network.specs.Refusals.{number_of}
use Rattle.image.specs.Layout.{network_in}
use Rattle.host.specs.declared.failure.Failure.TheVariants.{Refused}
use Rattle.host.specs.Entry.{Asked, Outcome}
use Rattle.host.specs.Status.{status}
use Rattle.host.proofs.Asking.{load_refused, concluded, status_of}
use Rattle.host.proofs.entry.safest_pair.Goals as goal

pub returns-in_err-load : goal.returns-in_err-load
returns-in_err-load c =
    let a = c.args in
    let fault = c.in_err-load.field-0.0 in
    let r = c.from_residual-in_err-load in
    load_refused a.image.now a.output.now a.from a.to a.rate a.mode c.in_ok-mode.mode c.in_ok-mode.ensures fault.refusal fault.at (status r.result) c.in_err-load.ensures.outcome.1 (status_of r.result (Refused fault.refusal) r.ensures.1)

pub returns-in_err-answer : goal.returns-in_err-answer
returns-in_err-answer c =
    let a = c.args in
    let r = c.load.new.self in
    let n = network_in r.image.now r.layout in
    let e = c.in_err-answer.field-0.0 in
    let told = c.from_residual-in_err-answer in
    let asked = subst (λ z. Asked (network_in z.image.now z.layout) a.from a.to a.rate c.in_ok-mode.mode a.output.now c.answer.new.output (number_of e)) c.in_ok-book.ensures.0 c.in_err-answer.ensures in
    subst (λ z. Outcome a.image.now a.output.now a.from a.to a.rate a.mode c.answer.new.output z) (sym (status_of told.result (Refused e) told.ensures.1))
    (concluded a.image.now a.output.now a.from a.to a.rate a.mode c.in_ok-mode.mode c.in_ok-mode.ensures n c.answer.new.output (number_of e) c.in_ok-load.ensures.outcome.1 asked)

pub returns : goal.returns
returns c =
    let a = c.args in
    let r = c.load.new.self in
    let n = network_in r.image.now r.layout in
    let asked = subst (λ z. Asked (network_in z.image.now z.layout) a.from a.to a.rate c.in_ok-mode.mode a.output.now c.answer.new.output 0) c.in_ok-book.ensures.0 c.in_ok-answer.ensures in
    concluded a.image.now a.output.now a.from a.to a.rate a.mode c.in_ok-mode.mode c.in_ok-mode.ensures n c.answer.new.output 0 c.in_ok-load.ensures.outcome.1 asked
