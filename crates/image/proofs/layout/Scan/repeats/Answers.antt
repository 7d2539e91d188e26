use Rattle.std.proofs.Common.{◌≡◌, List, ℕ, arith, refl, sym, ◌∙◌, ap}
use Rattle.std.proofs.lemmas.List.{ext_get_or}
use Rattle.image.specs.Layout.{place_offset, name_from}
use Rattle.image.proofs.Offsets.{repeats_when}
use Rattle.image.proofs.layout.Scan.repeats.Goals as goal

pub returns-in-earlier : goal.returns-in-earlier
returns-in-earlier c =
    let s = c.args.self.now in
    let other : List ℕ = c.read_name-other.result.now in
    let same : other ≡ c.args.name.now = ext_get_or 0 other c.args.name.now c.if-other-name.false (λ k h. c.loop-k.invariant k (omega arith)) in
    ((λ _. repeats_when (λ i. name_from s.image.now (place_offset s.image.now i)) c.args.name.now 0 s.layout.places c.earlier.counter (omega arith) (omega arith) (sym same ∙ c.read_name-other.ensures ∙ ap (name_from s.image.now) c.earlier.invariant.0)), λ _. refl)
