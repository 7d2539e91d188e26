-- Routes by arcs with lanes are the routes by usable circuits. Assumes nothing.
use Rattle.std.proofs.Common.{◌≡◌, ℕ, ◌<◌, ◌≤◌, true, List, [], ◌∷◌, map, length, sym, refl, ap, ◌∙◌, subst, inl, inr, ⊎_elim, arith}
use Rattle.std.proofs.lemmas.List.{get_or_past}
use Rattle.std.proofs.lemmas.Bool.{cases_lt}
use Rattle.search.specs.declared.Arc.{Arc}
use Rattle.network.specs.Network.{Network, Proper, circuit, no_circuit}
use Rattle.network.specs.Routes.{uses, Leads, Distinct, stops, Route}
use Rattle.promise.specs.declared.Mode.{Mode}
use Rattle.promise.specs.Ledger.{Ledger, left, Usable}
use Rattle.search.specs.Graph as graph
use Rattle.promise.specs.Lanes.{Narrow, Lane, Lanes}
use Rattle.promise.proofs.Members.{in_from_uses, uses_from_in, distinct_from_graph, distinct_to_graph}

module _ (n : Network) (l : Ledger) (m : Mode) (r : ℕ) (c k : ℕ) (lane : Lane n l m r c k) where
  lane_usable : 0 < k → Usable n l r c
  lane_usable h =
      ⊎_elim
      (λ (v : (k ≡ 0) × (Usable n l r c → ⊥)). absurd (omega (arith, h, v.0)))
      (λ w. ⊎_elim (λ v. v.1) (λ v. v.1) w)
      lane

  lane_some : Usable n l r c → 0 < k
  lane_some u =
      ⊎_elim
      (λ (v : (k ≡ 0) × (Usable n l r c → ⊥)). absurd (v.1 u))
      (λ w. ⊎_elim (λ v. omega (arith, v.0)) (λ v. omega (arith, v.0)) w)
      lane

  lane_wide : k ≡ 2 → Narrow m r (left n l c) → ⊥
  lane_wide e h =
      ⊎_elim
      (λ (v : (k ≡ 0) × (Usable n l r c → ⊥)). omega (arith, e, v.0))
      (λ w. ⊎_elim (λ v. omega (arith, e, v.0)) (λ v. v.2 h) w)
      lane

  lane_narrow : Usable n l r c → k < 2 → Narrow m r (left n l c)
  lane_narrow u h =
      ⊎_elim
      (λ (v : (k ≡ 0) × (Usable n l r c → ⊥)). absurd (v.1 u))
      (λ w. ⊎_elim (λ v. v.2) (λ v. absurd (omega (arith, h, v.0))) w)
      lane

  lane_few : k ≤ 2
  lane_few = ⊎_elim (λ v. omega (arith, v.0)) (λ w. ⊎_elim (λ v. omega (arith, v.0)) (λ v. omega (arith, v.0)) w) lane

-- the arcs of a route are arcs of the graph
pub leads_on_arc : (g : List Arc) (a b : ℕ) (cs : List ℕ) → graph.Leads g a cs b → (c : ℕ) → graph.In c cs → c < length g
leads_on_arc g a b [] h c i = absurd i
leads_on_arc g a b (d ∷ cs) h c i =
    ⊎_elim (λ (e : c ≡ d). omega (arith, e, h.0)) (λ i'. leads_on_arc g (graph.arc g d).to b cs h.3 c i') i

module _ (n : Network) (l : Ledger) (m : Mode) (r : ℕ) (g : List Arc) (lanes : Lanes n l m r g) where
  on_circuit : (c : ℕ) → c < length g → c < length n.circuits
  on_circuit c h = omega (arith, h, lanes.same_length)

  on_arc : (c : ℕ) → c < length n.circuits → c < length g
  on_arc c h = omega (arith, h, lanes.same_length)

  -- the ends agree at every number, past the last too
  from_same : (c : ℕ) → (graph.arc g c).from ≡ (circuit n c).from
  from_same c =
      ⊎_elim
      (λ h. (lanes.each c h).from_same)
      (λ h. ap (λ (x : Arc). x.from) (get_or_past g c graph.none h) ∙ sym (ap (λ x. x.from) (get_or_past n.circuits c no_circuit (omega (arith, h, lanes.same_length)))))
      (cases_lt c (length g))

  to_same : (c : ℕ) → (graph.arc g c).to ≡ (circuit n c).to
  to_same c =
      ⊎_elim
      (λ h. (lanes.each c h).to_same)
      (λ h. ap (λ (x : Arc). x.to) (get_or_past g c graph.none h) ∙ sym (ap (λ x. x.to) (get_or_past n.circuits c no_circuit (omega (arith, h, lanes.same_length)))))
      (cases_lt c (length g))

  stops_same : (cs : List ℕ) → map (λ c. (graph.arc g c).to) cs ≡ stops n cs
  stops_same [] = refl
  stops_same (c ∷ cs) = ap (λ x. x ∷ map (λ d. (graph.arc g d).to) cs) (to_same c) ∙ ap (λ xs. (circuit n c).to ∷ xs) (stops_same cs)

  pub usable_from_lanes : (c : ℕ) → c < length g → 0 < (graph.arc g c).lanes → Usable n l r c
  usable_from_lanes c h some = lane_usable n l m r c (graph.arc g c).lanes (lanes.each c h).lane some

  pub lanes_from_usable : (c : ℕ) → c < length g → Usable n l r c → 0 < (graph.arc g c).lanes
  lanes_from_usable c h u = lane_some n l m r c (graph.arc g c).lanes (lanes.each c h).lane u

  pub wide_from_lanes : (c : ℕ) → c < length g → (graph.arc g c).lanes ≡ 2 → Narrow m r (left n l c) → ⊥
  wide_from_lanes c h two = lane_wide n l m r c (graph.arc g c).lanes (lanes.each c h).lane two

  pub narrow_from_lanes : (c : ℕ) → c < length g → Usable n l r c → (graph.arc g c).lanes < 2 → Narrow m r (left n l c)
  narrow_from_lanes c h u few = lane_narrow n l m r c (graph.arc g c).lanes (lanes.each c h).lane u few

  pub leads_from_graph : (a b : ℕ) (cs : List ℕ) → graph.Leads g a cs b → Leads n a cs b
  leads_from_graph a b [] h = h
  leads_from_graph a b (c ∷ cs) h = (
    on_circuit c h.0,
    sym (from_same c) ∙ h.1,
    subst (λ p. Leads n p cs b) (to_same c) (leads_from_graph (graph.arc g c).to b cs h.3),
  )

  pub leads_usable : (a b : ℕ) (cs : List ℕ) → graph.Leads g a cs b → (c : ℕ) → graph.In c cs → Usable n l r c
  leads_usable a b [] h c i = absurd i
  leads_usable a b (d ∷ cs) h c i =
      ⊎_elim
      (λ (e : c ≡ d). subst (Usable n l r) (sym e) (usable_from_lanes d h.0 h.2))
      (λ i'. leads_usable (graph.arc g d).to b cs h.3 c i')
      i

  pub leads_to_graph : (a b : ℕ) (cs : List ℕ) → Leads n a cs b → ((c : ℕ) → graph.In c cs → Usable n l r c) → graph.Leads g a cs b
  leads_to_graph a b [] h u = h
  leads_to_graph a b (c ∷ cs) h u =
      let is = on_arc c h.0 in (
        is,
        from_same c ∙ h.1,
        lanes_from_usable c is (u c (inl refl)),
        leads_to_graph (graph.arc g c).to b cs (subst (λ p. Leads n p cs b) (sym (to_same c)) h.2) (λ d i. u d (inr i)),
      )

  -- a route by arcs is a route by circuits, all of them usable
  pub route_from_graph : (a b : ℕ) (cs : List ℕ) → graph.Route g a b cs → Route n a b cs
  route_from_graph a b cs h = (
    h.some,
    leads_from_graph a b cs h.leads,
    subst (λ xs. Distinct (a ∷ xs)) (stops_same cs) (distinct_from_graph (graph.visited g a cs) h.simple),
  )

  pub route_usable : (a b : ℕ) (cs : List ℕ) → graph.Route g a b cs → (c : ℕ) → uses c cs ≡ true → Usable n l r c
  route_usable a b cs h c e = leads_usable a b cs h.leads c (in_from_uses c cs e)

  -- and a route by usable circuits is a route by arcs
  pub leads_from_route : (a b : ℕ) (cs : List ℕ) → Route n a b cs → ((c : ℕ) → uses c cs ≡ true → Usable n l r c) → graph.Leads g a cs b
  leads_from_route a b cs h u = leads_to_graph a b cs h.1 (λ c i. u c (uses_from_in c cs i))

  pub route_to_graph : (a b : ℕ) (cs : List ℕ) → Route n a b cs → ((c : ℕ) → uses c cs ≡ true → Usable n l r c) → graph.Route g a b cs
  route_to_graph a b cs h u = record {
    some = h.0;
    leads = leads_from_route a b cs h u;
    simple = subst (λ xs. graph.Distinct (a ∷ xs)) (sym (stops_same cs)) (distinct_to_graph (a ∷ stops n cs) h.2);
  }

  -- what a search asks of its arcs
  pub lanes_proper : Proper n → graph.Proper g n.places
  lanes_proper proper = record {
    few_arcs = omega (arith, proper.few_circuits, lanes.same_length);
    few_places = proper.few_places;
    joins = λ c h.
        let s = proper.each c (on_circuit c h) in
        record {
          from_in = omega (arith, s.from_place, from_same c);
          to_in = omega (arith, s.to_place, to_same c);
          apart = λ e. s.apart (sym (from_same c) ∙ (e ∙ to_same c));
          few = lane_few n l m r c (graph.arc g c).lanes (lanes.each c h).lane;
        };
  }
