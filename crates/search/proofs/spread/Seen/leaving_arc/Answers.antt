use Rattle.std.proofs.Common.{rules, ◌≡◌, ℕ, ◌<◌, Some, None, get_or, sym, ap, ◌∙◌, subst, arith}
use borrow.Author.Tests.{tests}
use Rattle.std.proofs.lemmas.Iterator.{first_from_find}
use Rattle.std.proofs.lemmas.Iterator.Adapters.{serves_from_places}
use Rattle.std.proofs.lemmas.Iterator.Consumers.{YieldsList-from_first}
use Rattle.std.proofs.lemmas.List.Elements.{All-from_all_within}
use Rattle.search.specs.declared.Arc.{Arc}
use Rattle.search.specs.declared.graph.By.TheVariants.{Start, End}
use Rattle.search.specs.Remaining.{arcs_left}
use Rattle.search.specs.Rolls.{IsSeen}
use Rattle.search.proofs.Chained.{end_within, each_at, found_at}
use Rattle.search.proofs.spread.Seen.leaving_arc.Goals as goal

pub find-requires-clause-callable : goal.find-requires-clause-callable
find-requires-clause-callable c =
    let g = c.args.graph.now in
    serves_from_places
    (YieldsList-from_first (λ x. x) arcs_left _ c.at.ensures)
    (λ x q k. search (rules, tests))
    (λ x k l e.
    let at = found_at g.arcs.now Start c.args.place k x l (sym e) in
    let to_in : x.1.to < 128 = omega (arith, end_within g.arcs.now 128 g.proper End x.0 at.is, ap (λ a. a.to) at.same) in
    λ y same _ _ _ _ _ _ _ _ _. subst (λ z. z.1.to < 128) (sym same) to_in)

pub returns-in_err-c : goal.returns-in_err-c
returns-in_err-c c =
    let rank = c.args.self.now.rank in
    let passes : ℕ × Arc → Type 0 = λ x. 0 < x.1.lanes → 0 < get_or rank x.1.to 0 in
    let none =
    first_from_find c.find.new.self _ None (λ x. (0 < x.1.lanes) × (get_or rank x.1.to 0 ≡ 0)) passes c.in_err-c.ensures.ran (YieldsList-from_first (λ x. x) arcs_left _ c.at.ensures) (λ x q k. search (rules, tests)) (λ x q k. search (rules, tests)) in
    rw c.from_residual.ensures (each_at c.args.graph.now.arcs.now Start c.args.place passes (All-from_all_within passes _ none))

pub returns : goal.returns
returns c =
    let s = c.args.self.now in
    let x : ℕ × Arc = (c.in_ok-c.c, c.in_ok-c.field-0-1) in
    let first =
    first_from_find c.find.new.self _ (Some x) (λ x. (0 < x.1.lanes) × (get_or s.rank x.1.to 0 ≡ 0)) (λ x. 0 < x.1.lanes → 0 < get_or s.rank x.1.to 0) c.in_ok-c.ensures.ran (YieldsList-from_first (λ x. x) arcs_left _ c.at.ensures) (λ x q k. search (rules, tests)) (λ x q k. search (rules, tests)) in
    let at = found_at c.args.graph.now.arcs.now Start c.args.place first.1 x first.2 (first.3 x) in
    record {
      is = at.is;
      usable = omega (arith, first.0.0, ap (λ a. a.lanes) at.same);
      seen = subst (IsSeen s) (sym at.on ∙ ap (λ a. a.from) at.same) c.requires;
      new = sym (ap (λ a. get_or s.rank a.to 0) at.same) ∙ first.0.1;
    }
