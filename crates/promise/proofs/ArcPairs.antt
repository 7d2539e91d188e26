-- What two routes by arcs with lanes say of the sets that can carry the rate. Assumes nothing.
use Rattle.std.proofs.Common.{◌≡◌, ℕ, ◌*◌, ◌<◌, ◌≤◌, true, List, [], ◌∷◌, length, ⊎_elim, le_trans, mul-le-mul_right, arith}
use Rattle.std.proofs.lemmas.Bool.{cases_lt, cases_Bool}
use Rattle.search.specs.declared.Arc.{Arc}
use Rattle.network.specs.Network.{Network}
use Rattle.network.specs.Routes.{Each, uses, times, shared, Route}
use Rattle.promise.specs.declared.Mode.{Mode}
use Rattle.promise.specs.declared.Mode.TheVariants.{OnePlusOne, OneToOne}
use Rattle.promise.specs.Ledger.{Ledger, left, Usable, Rule, Choice}
use Rattle.scale.specs.Measure.{Measure}
use Rattle.promise.specs.Promise.{NoPair}
use Rattle.search.specs.Graph as graph
use Rattle.promise.specs.Lanes.{Narrow, Lanes}
use Rattle.promise.proofs.Members.{in_from_uses, uses_from_in}
use Rattle.network.proofs.Lists.{each_in}
use Rattle.network.proofs.Counts.{one_more, no_more, at_most_one, times_shared, in_shared}
use Rattle.promise.proofs.ArcRoutes.{wide_from_lanes, narrow_from_lanes, leads_on_arc, leads_usable, leads_from_route, route_from_graph}

-- the mode's rule holds of one route, of two where the circuit is not narrow, and of no two where it is
rule_one : (m : Mode) (r t room : ℕ) → r ≤ room → t ≤ 1 → Rule m r t room
rule_one OnePlusOne r t room h few = let p : t * r ≤ 1 * r = mul-le-mul_right r few in omega arith
rule_one OneToOne r t room h few = tt

rule_two : (m : Mode) (r t room : ℕ) → (Narrow m r room → ⊥) → t ≤ 2 → Rule m r t room
rule_two OnePlusOne r t room wide few =
    let p : t * r ≤ 2 * r = mul-le-mul_right r few in
    ⊎_elim (λ (h : room < 2 * r). absurd (wide h)) (λ (h : 2 * r ≤ room). le_trans p h) (cases_lt room (2 * r))
rule_two OneToOne r t room wide few = tt

narrow_rule : (m : Mode) (r t room : ℕ) → Narrow m r room → 2 ≤ t → Rule m r t room → ⊥
narrow_rule OnePlusOne r t room narrow many rule = let p : 2 * r ≤ t * r = mul-le-mul_right r many in omega arith
narrow_rule OneToOne r t room narrow many rule = narrow

module _ (n : Network) (l : Ledger) (m : Mode) (r : ℕ) (g : List Arc) (lanes : Lanes n l m r g) (a b : ℕ) where
  -- two routes that share only arcs with two lanes can carry the rate
  module _ (first second : List ℕ) (p : graph.Route g a b first) (q : graph.Route g a b second) (shares : graph.Shares g a b first second) where
    abbrev both : List (List ℕ)
    both = first ∷ second ∷ []

    abbrev Fits : ℕ → Type 0
    Fits c = Usable n l r c × Rule m r (times c both) (left n l c)

    in_both : (c : ℕ) → graph.In c first → graph.In c second → Fits c
    in_both c i j = (
      leads_usable n l m r g lanes a b first p.leads c i,
      rule_two m r (times c both) (left n l c)
          (wide_from_lanes n l m r g lanes c (leads_on_arc g a b first p.leads c i) (shares c i j).0)
          (omega (arith, at_most_one (uses c first), at_most_one (uses c second))),
    )

    in_one : (c : ℕ) → Usable n l r c → times c both ≤ 1 → Fits c
    in_one c u few = (u, rule_one m r (times c both) (left n l c) u.1 few)

    pub pair_carries : Choice n l a b m r both
    pair_carries = (
      (omega arith, (route_from_graph n l m r g lanes a b first p, (route_from_graph n l m r g lanes a b second q, tt))),
      λ c h.
          ⊎_elim
          (λ e.
          ⊎_elim
          (λ f. in_both c (in_from_uses c first e) (in_from_uses c second f))
          (λ f. in_one c (leads_usable n l m r g lanes a b first p.leads c (in_from_uses c first e)) (omega (arith, one_more (uses c first) e, no_more (uses c second) f)))
          (cases_Bool (uses c second)))
          (λ e.
          ⊎_elim
          (λ f. in_one c (leads_usable n l m r g lanes a b second q.leads c (in_from_uses c second f)) (omega (arith, no_more (uses c first) e, one_more (uses c second) f)))
          (λ f. absurd (omega (arith, h, no_more (uses c first) e, no_more (uses c second) f)))
          (cases_Bool (uses c second)))
          (cases_Bool (uses c first)),
    )

  abbrev ByArcs : List ℕ → Type 0
  ByArcs cs = graph.Leads g a cs b

  -- the routes of a set that can carry the rate lead by the arcs
  each_leads : (rs : List (List ℕ)) → Each (Route n a b) rs → ((c : ℕ) → 0 < times c rs → Usable n l r c) → Each ByArcs rs
  each_leads [] p u = tt
  each_leads (cs ∷ rs) p u = (
    leads_from_route n l m r g lanes a b cs p.0 (λ c e. u c (omega (arith, one_more (uses c cs) e))),
    each_leads rs p.1 (λ c h. u c (omega (arith, h))),
  )

  pub choice_leads : (rs : List (List ℕ)) → Choice n l a b m r rs → Each ByArcs rs
  choice_leads rs ch = each_leads rs ch.0.1 (λ c h. (ch.1 c h).0)

  -- what every route by the arcs needs, every set that can carry the rate shares
  pub must_shared : (c : ℕ) → graph.Must g a b c → (rs : List (List ℕ)) → Choice n l a b m r rs → shared c rs ≡ true
  must_shared c must rs ch = in_shared c rs (λ x i. uses_from_in c x (must x (each_in ByArcs rs (choice_leads rs ch) x i)))

  -- no set can carry the rate where the search refuses
  none_leads : (rs : List (List ℕ)) → 2 ≤ length rs → Each ByArcs rs → ((cs : List ℕ) → ByArcs cs → ⊥) → ⊥
  none_leads [] two p none = omega (arith, two)
  none_leads (cs ∷ rs) two p none = none cs p.0

  must_on_arc : (c : ℕ) → graph.Must g a b c → (rs : List (List ℕ)) → 2 ≤ length rs → Each ByArcs rs → c < length g
  must_on_arc c must [] two p = absurd (omega (arith, two))
  must_on_arc c must (cs ∷ rs) two p = leads_on_arc g a b cs p.0 c (must cs p.0)

  gate_narrow : (c : ℕ) → graph.Must g a b c → (graph.arc g c).lanes < 2 → (rs : List (List ℕ)) → Choice n l a b m r rs → ⊥
  gate_narrow c must few rs ch =
      let all : times c rs ≡ length rs = times_shared c rs (must_shared c must rs ch) in
      let many : 2 ≤ times c rs = omega (arith, all, ch.0.0) in
      let fits = ch.1 c (omega (arith, many)) in
      let on : c < length g = must_on_arc c must rs ch.0.0 (choice_leads rs ch) in
      narrow_rule m r (times c rs) (left n l c) (narrow_from_lanes n l m r g lanes c on fits.0 few) many fits.1

  pub refused_none : {V : Type 0} (s : Measure V) → graph.Refused g a b → NoPair s n l a b m r
  refused_none s refused rs ch =
      ⊎_elim
      (λ none. none_leads rs ch.0.0 (choice_leads rs ch) none)
      (λ (gate : (c : ℕ) × (graph.Must g a b c) × ((graph.arc g c).lanes < 2)). gate_narrow gate.0 gate.1 gate.2 rs ch)
      refused
