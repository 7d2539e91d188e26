use Rattle.std.proofs.Common.{◌≡◌, ◌+◌, [], ◌∷◌, ◌++◌, length, sym, refl, ap, ◌∙◌, subst, arith}
use Rattle.std.proofs.lemmas.List.{append-nil, append_assoc, length_push}
use Rattle.search.specs.Links.{Linked, end_by}
use Rattle.search.proofs.Chained.{linked_none, linked_last}
use Rattle.search.proofs.graph.Chains.new.Goals as goal

pub loop-c-init : goal.loop-c-init
loop-c-init c =
    let all : c.into_iter-c-iterator.result.iter.iter.rest.now ≡ c.args.arcs.now = cc in
    (cc, ([], append-nil _ ∙ all), linked_none _ _ _ _ _ (omega (arith, ap length all)) (omega (arith, ap length all, c.requires.few_arcs)) refl refl)

pub loop-c-preserved : goal.loop-c-preserved
loop-c-preserved c =
    let i = c.loop-c.invariant in
    let steps = c.in-Some.ensures.steps in
    let before = c.next.new.self.iter.iter.rest.now in
    let x = c.in-Some.arc.now in
    let split : before ++ x ∷ i.1.0 ≡ c.args.arcs.now =
    sym (append_assoc before (x ∷ []) i.1.0) ∙ ap (λ r. r ++ i.1.0) (sym steps.1.0) ∙ i.1.1 in
    let old : Linked c.args.arcs.now (end_by c.args.by) (length before + 1) c.loop-c.first c.loop-c.next =
    subst (λ n. Linked c.args.arcs.now (end_by c.args.by) n c.loop-c.first c.loop-c.next) (ap length steps.1.0 ∙ length_push before x) i.2 in (
      steps.0 ∙ i.0,
      (x ∷ i.1.0, split),
      linked_last _ c.args.by c.requires before i.1.0 x split _ _ _ _ old (omega (arith, steps.1.1, i.0)) c.place-place.ensures,
    )
