-- Membership and difference as tests, and as types: each gives the other. Assumes nothing.
use Rattle.std.proofs.Common.{◌≡◌, ℕ, true, false, eqb, List, [], ◌∷◌, inl, inr, ⊎_elim}
use Rattle.std.proofs.lemmas.Bool.{false≢true, both_ways, eqb-true, eq-eqb, or_cases, or_left, or_right, cases_Bool}
use Rattle.search.specs.Graph as graph
use Rattle.network.specs.Routes.{uses, Distinct}

pub in_from_uses : (c : ℕ) (ds : List ℕ) → uses c ds ≡ true → graph.In c ds
in_from_uses c [] h = absurd (false≢true h)
in_from_uses c (d ∷ ds) h = ⊎_elim (λ e. inl (eqb-true c d e)) (λ e. inr (in_from_uses c ds e)) (or_cases (eqb c d) (uses c ds) h)

pub uses_from_in : (c : ℕ) (ds : List ℕ) → graph.In c ds → uses c ds ≡ true
uses_from_in c [] h = absurd h
uses_from_in c (d ∷ ds) h =
    ⊎_elim
    (λ e. or_left (eqb c d) (uses c ds) (eq-eqb c d e))
    (λ i. or_right (eqb c d) (uses c ds) (uses_from_in c ds i))
    h

pub unused_from_out : (c : ℕ) (ds : List ℕ) → (graph.In c ds → ⊥) → uses c ds ≡ false
unused_from_out c ds h = ⊎_elim (λ e. absurd (h (in_from_uses c ds e))) (λ e. e) (cases_Bool (uses c ds))

pub out_from_unused : (c : ℕ) (ds : List ℕ) → uses c ds ≡ false → graph.In c ds → ⊥
out_from_unused c ds e i = both_ways (uses c ds) e (uses_from_in c ds i)

pub distinct_from_graph : (xs : List ℕ) → graph.Distinct xs → Distinct xs
distinct_from_graph [] h = tt
distinct_from_graph (x ∷ xs) h = (unused_from_out x xs h.0, distinct_from_graph xs h.1)

pub distinct_to_graph : (xs : List ℕ) → Distinct xs → graph.Distinct xs
distinct_to_graph [] h = tt
distinct_to_graph (x ∷ xs) h = (out_from_unused x xs h.0, distinct_to_graph xs h.1)
