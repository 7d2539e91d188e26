-- From the tables to the arcs of a search. Assumes nothing.
use Rattle.std.proofs.Common.{◌≡◌, ℕ, ◌+◌, ◌<◌, ◌≤◌, List, [], ◌∷◌, length, get_or, take, drop, set, Some, None, vec_len, Option, MatchOption, unwrap_or, sym, ap, ◌∙◌, subst, arith, below_more, add-one, drop-cons, length-drop}
use Rattle.std.proofs.lemmas.List.{get_or-set_same, get_or-set_other, get_or-take, length-take-le}
use Rattle.network.specs.declared.register.Circuit.{Circuit}
use Rattle.network.specs.Network.{Network, Proper, circuit, no_circuit}
use Rattle.search.specs.declared.Arc.{Arc}
use Rattle.search.specs.Graph as graph
use Rattle.promise.specs.declared.Mode.{Mode}
use Rattle.promise.specs.Lanes.{Lanes}
use Rattle.tables.specs.declared.rows.Tables.{Tables}
use Rattle.tables.specs.Standing.{Keeps, ledger_of, left_at}
use Rattle.plan.specs.Arcs.{ArcFor}

-- what the tables tell of what is left, at a circuit that they have
pub left_told : (t : Tables) (c : ℕ) (r : Option ℕ) → c < vec_len t.circuits → MatchOption r (vec_len t.circuits ≤ c) (λ x. (c < vec_len t.circuits) × (x ≡ left_at t c)) → unwrap_or r 0 ≡ left_at t c
left_told t c None h p = absurd (omega (arith, h, p))
left_told t c (Some x) h p = p.1

-- A loop over the circuits: those from a number on are still to come. The first of them has that number, and the others come after it.
module _ (n : Network) (front rest : List Circuit) (count i : ℕ) (x : Circuit) (from : front ≡ drop count n.circuits) (next : front ≡ x ∷ rest) (is : i ≡ count) where
  at_front : drop i n.circuits ≡ x ∷ rest
  at_front = rw is (sym from ∙ next)

  pub comes_within : i < length n.circuits
  comes_within = omega (arith, ap length at_front, length-drop i n.circuits)

  pub comes_low : Proper n → i < 384
  comes_low proper = omega (arith, comes_within, proper.few_circuits)

  comes : x ∷ rest ≡ circuit n i ∷ drop (i + 1) n.circuits
  comes = sym at_front ∙ rw (add-one, drop-cons n.circuits i no_circuit comes_within)

  pub comes_circuit : x ≡ circuit n i
  comes_circuit = cc comes

  pub comes_rest : rest ≡ drop (i + 1) n.circuits
  comes_rest = cc comes

-- the loop has gone through all circuits
pub none_comes : (n : Network) (front : List Circuit) (count : ℕ) → front ≡ drop count n.circuits → front ≡ [] → length n.circuits ≤ count
none_comes n front count from none = omega (arith, ap length (sym from ∙ none), length-drop count n.circuits)

-- what holds of each element below one that is written, and of what is written, holds of each up to it
each_written : {A : Type 0} (P : ℕ → A → Type 0) (xs : List A) (i : ℕ) (v d : A) → i < length xs → ((k : ℕ) → k < i → P k (get_or xs k d)) → P i v → (k : ℕ) → k < i + 1 → P k (get_or (set xs i v) k d)
each_written P xs i v d h below here =
    below_more _ _
    (λ k lt. subst (P k) (sym (get_or-set_other xs i k v d (λ e. omega (arith, e, lt)))) (below k lt))
    (subst (P i) (sym (get_or-set_same xs i v d h)) here)

module _ (n : Network) (t : Tables) (m : Mode) (rate : ℕ) where
  pub arc_written : (g : List Arc) (i : ℕ) (x : Arc) → i < length g → ((k : ℕ) → k < i → ArcFor n t m rate k (graph.arc g k)) → ArcFor n t m rate i x → (k : ℕ) → k < i + 1 → ArcFor n t m rate k (graph.arc (set g i x) k)
  arc_written g i x h below here = each_written (ArcFor n t m rate) g i x graph.none h below here

  -- the arcs of all circuits
  module _ (g : List Arc) (long : length n.circuits ≤ length g) (each : (k : ℕ) → k < length n.circuits → ArcFor n t m rate k (graph.arc g k)) where
    abbrev front : List Arc
    front = take (length n.circuits) g

    front_long : length front ≡ length n.circuits
    front_long = length-take-le (length n.circuits) g long

    front_each : (k : ℕ) → k < length front → ArcFor n t m rate k (graph.arc front k)
    front_each k h =
        let on : k < length n.circuits = omega (arith, h, front_long) in
        subst (ArcFor n t m rate k) (sym (get_or-take (length n.circuits) g k graph.none on)) (each k on)

    pub arcs_proper : Proper n → graph.Proper front n.places
    arcs_proper proper = record {
      few_arcs = omega (arith, front_long, proper.few_circuits);
      few_places = proper.few_places;
      joins = λ k h. (front_each k h).0;
    }

    pub arcs_lanes : Keeps n t → Lanes n (ledger_of t) m rate front
    arcs_lanes keeps = record { same_length = front_long; each = λ k h. (front_each k h).1 keeps }
