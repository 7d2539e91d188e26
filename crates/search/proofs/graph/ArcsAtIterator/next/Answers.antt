use Rattle.std.proofs.Common.{rules, length, sym, ap, ◌∙◌, arith}
use Rattle.std.proofs.iter.Next.{firm}
use Rattle.std.proofs.lemmas.Bool.{ltb-true}
use Rattle.std.proofs.lemmas.List.{get_or_default}
use Rattle.search.specs.Graph.{none}
use Rattle.search.proofs.Chained.{arcs_turn}
use Rattle.search.proofs.graph.ArcsAtIterator.next.Goals as goal

pub returns-clause-steps : goal.returns-clause-steps
returns-clause-steps c =
    let s = c.args.self.now in
    let found = c.in_ok-arc.ensures.lookup in
    let is = ltb-true s.at (length s.arcs.now) (sym found.0) in
    arcs_turn _ _ _ _ _ s.linked s.at is (s.on is) _ (found.1 ∙ get_or_default s.arcs.now s.at c.in_ok-arc.field-0.now none is)

pub returns-clause-goes : goal.returns-clause-goes
returns-clause-goes c =
    let s = c.args.self.now in
    let found = c.in_ok-arc.ensures.lookup in
    let is = ltb-true s.at (length s.arcs.now) (sym found.0) in
    firm (tt, tt, omega (arith, ap length (arcs_turn _ _ _ _ _ s.linked s.at is (s.on is) _ (found.1 ∙ get_or_default s.arcs.now s.at c.in_ok-arc.field-0.now none is)))) (λ h. search rules)
