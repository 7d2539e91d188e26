-- The tests of a route, of what a set can carry, and of a pair that stands where a set does. Assumes nothing.
use Rattle.std.proofs.Common.{◌≡◌, ℕ, ◌*◌, Bool, true, not, ◌&&◌, eqb, ltb, leb, List, [], ◌∷◌, length, get_or, Decides, sym, refl, subst, inl, inr, arith}
use Rattle.std.proofs.lemmas.Bool.{and_parts, and_from, false≢true, or_cases, or_left, or_right, not-true, not_from_false, eqb-true, eq-eqb, ne_eqb, eqb-false, lt-ltb, ltb-true, leb-true, le-leb}
use Rattle.network.specs.Network.{Network, circuit, Proper}
use Rattle.network.specs.Routes.{uses, Distinct, Leads, stops, Route, times}
use Rattle.promise.specs.declared.Mode.{Mode}
use Rattle.promise.specs.declared.Mode.TheVariants.{OnePlusOne, OneToOne}
use Rattle.promise.specs.Ledger.{Notice, Ledger, left, Open, Usable, Rule, Carries, Choice}
use Rattle.network.proofs.Counts.{times_some, some_times}
use Rattle.promise.proofs.Carrying.{first_of_two}
use Rattle.worked_lines.proofs.AnswerTest.{distinct?, leads?, route?, rule?, open?, free?, carries?, choice?, pair?, usable}
use Rattle.network.proofs.Lists.{every, some, In, each_in, every_each, each_every, every_in, in_every, some_in, in_some, in_kept}
use Rattle.worked_lines.proofs.AllRoutes.{routes, routes_has, routes_only}

-- the tests of a route
distinct_sound : (xs : List ℕ) → distinct? xs ≡ true → Distinct xs
distinct_sound [] h = tt
distinct_sound (x ∷ xs) h = let p = and_parts (not (uses x xs)) (distinct? xs) h in (not-true (uses x xs) p.0, distinct_sound xs p.1)

leads_sound : (n : Network) (a : ℕ) (cs : List ℕ) (b : ℕ) → leads? n a cs b ≡ true → Leads n a cs b
leads_sound n a [] b h = eqb-true a b h
leads_sound n a (c ∷ cs) b h =
    let p = and_parts (ltb c (length n.circuits)) (eqb (circuit n c).from a && leads? n (circuit n c).to cs b) h in
    let q = and_parts (eqb (circuit n c).from a) (leads? n (circuit n c).to cs b) p.1 in
    (ltb-true c (length n.circuits) p.0, eqb-true (circuit n c).from a q.0, leads_sound n (circuit n c).to cs b q.1)

pub route_sound : (n : Network) (a b : ℕ) (cs : List ℕ) → route? n a b cs ≡ true → Route n a b cs
route_sound n a b cs h =
    let p = and_parts (ltb 0 (length cs)) (leads? n a cs b && distinct? (a ∷ stops n cs)) h in
    let q = and_parts (leads? n a cs b) (distinct? (a ∷ stops n cs)) p.1 in
    (ltb-true 0 (length cs) p.0, leads_sound n a cs b q.0, distinct_sound (a ∷ stops n cs) q.1)

distinct_complete : (xs : List ℕ) → Distinct xs → distinct? xs ≡ true
distinct_complete [] h = refl
distinct_complete (x ∷ xs) h = and_from (not (uses x xs)) (distinct? xs) (not_from_false (uses x xs) h.0) (distinct_complete xs h.1)

pub leads_complete : (n : Network) (a : ℕ) (cs : List ℕ) (b : ℕ) → Leads n a cs b → leads? n a cs b ≡ true
leads_complete n a [] b h = eq-eqb a b h
leads_complete n a (c ∷ cs) b h =
    and_from (ltb c (length n.circuits)) (eqb (circuit n c).from a && leads? n (circuit n c).to cs b) (lt-ltb c (length n.circuits) h.0)
    (and_from (eqb (circuit n c).from a) (leads? n (circuit n c).to cs b) (eq-eqb (circuit n c).from a h.1) (leads_complete n (circuit n c).to cs b h.2))

pub route_complete : (n : Network) (a b : ℕ) (cs : List ℕ) → Route n a b cs → route? n a b cs ≡ true
route_complete n a b cs h =
    and_from (ltb 0 (length cs)) (leads? n a cs b && distinct? (a ∷ stops n cs)) (lt-ltb 0 (length cs) h.0)
    (and_from (leads? n a cs b) (distinct? (a ∷ stops n cs)) (leads_complete n a cs b h.1) (distinct_complete (a ∷ stops n cs) h.2))

open_sound : (l : Ledger) (c : ℕ) → open? l c ≡ true → Open l c
open_sound l c h = every_each (λ (x : Notice). not (eqb x.circuit c)) (λ (x : Notice). x.circuit ≡ c → ⊥) (λ x e. eqb-false x.circuit c (not-true (eqb x.circuit c) e)) l.notices h

open_complete : (l : Ledger) (c : ℕ) → Open l c → open? l c ≡ true
open_complete l c h = each_every (λ (x : Notice). not (eqb x.circuit c)) (λ (x : Notice). x.circuit ≡ c → ⊥) (λ x e. not_from_false (eqb x.circuit c) (ne_eqb x.circuit c e)) l.notices h

pub decides_open : (l : Ledger) (c : ℕ) → Decides (open? l c) (Open l c)
decides_open l c = (open_sound l c, open_complete l c)

rule_sound : (m : Mode) (rate t left : ℕ) → rule? m rate t left ≡ true → Rule m rate t left
rule_sound OnePlusOne rate t left h = leb-true (t * rate) left h
rule_sound OneToOne rate t left h = tt

rule_complete : (m : Mode) (rate t left : ℕ) → Rule m rate t left → rule? m rate t left ≡ true
rule_complete OnePlusOne rate t left h = le-leb (t * rate) left h
rule_complete OneToOne rate t left h = refl

-- a test passes on every circuit of a route where it passes on each that the route uses, and only there
every_used : (p : ℕ → Bool) (cs : List ℕ) → every p cs ≡ true → (c : ℕ) → uses c cs ≡ true → p c ≡ true
every_used p [] h c u = absurd (false≢true u)
every_used p (d ∷ cs) h c u =
    let q = and_parts (p d) (every p cs) h in
    elim (or_cases (eqb c d) (uses c cs) u) [
      | inl e ↦ subst (λ z. p z ≡ true) (sym (eqb-true c d e)) q.0
      | inr e ↦ every_used p cs q.1 c e
    ]

used_every : (p : ℕ → Bool) (cs : List ℕ) → ((c : ℕ) → uses c cs ≡ true → p c ≡ true) → every p cs ≡ true
used_every p [] f = refl
used_every p (d ∷ cs) f = and_from (p d) (every p cs) (f d (or_left (eqb d d) (uses d cs) (eq-eqb d d refl))) (used_every p cs (λ c u. f c (or_right (eqb c d) (uses c cs) u)))

module _ (n : Network) (l : Ledger) where
  free_sound : (m : Mode) (rate : ℕ) (rs : List (List ℕ)) (c : ℕ) → free? n l m rate rs c ≡ true → Usable n l rate c × Rule m rate (times c rs) (left n l c)
  free_sound m rate rs c h =
      let p = and_parts (open? l c && leb rate (left n l c)) (rule? m rate (times c rs) (left n l c)) h in
      let q = and_parts (open? l c) (leb rate (left n l c)) p.0 in
      ((open_sound l c q.0, leb-true rate (left n l c) q.1), rule_sound m rate (times c rs) (left n l c) p.1)

  free_complete : (m : Mode) (rate : ℕ) (rs : List (List ℕ)) (c : ℕ) → Usable n l rate c × Rule m rate (times c rs) (left n l c) → free? n l m rate rs c ≡ true
  free_complete m rate rs c h =
      and_from (open? l c && leb rate (left n l c)) (rule? m rate (times c rs) (left n l c))
      (and_from (open? l c) (leb rate (left n l c)) (open_complete l c h.0.0) (le-leb rate (left n l c) h.0.1))
      (rule_complete m rate (times c rs) (left n l c) h.1)

  pub carries_sound : (m : Mode) (rate : ℕ) (rs : List (List ℕ)) → carries? n l m rate rs ≡ true → Carries n l m rate rs
  carries_sound m rate rs h c k =
      let r = some_times c rs k in
      free_sound m rate rs c (every_used (free? n l m rate rs) r.0 (every_in (every (free? n l m rate rs)) rs h r.0 r.1) c r.2)

  pub carries_complete : (m : Mode) (rate : ℕ) (rs : List (List ℕ)) → Carries n l m rate rs → carries? n l m rate rs ≡ true
  carries_complete m rate rs h =
      in_every (every (free? n l m rate rs)) rs (λ r i. used_every (free? n l m rate rs) r (λ c u. free_complete m rate rs c (h c (times_some c rs r i u))))

  -- the test of a set that can carry the rate
  pub choice_sound : (a b : ℕ) (m : Mode) (rate : ℕ) (rs : List (List ℕ)) → choice? n l a b m rate rs ≡ true → Choice n l a b m rate rs
  choice_sound a b m rate rs h =
      let p = and_parts (leb 2 (length rs)) (every (route? n a b) rs && carries? n l m rate rs) h in
      let q = and_parts (every (route? n a b) rs) (carries? n l m rate rs) p.1 in
      ((leb-true 2 (length rs) p.0, every_each (route? n a b) (Route n a b) (λ x. route_sound n a b x) rs q.0), carries_sound m rate rs q.1)

  pub choice_complete : (a b : ℕ) (m : Mode) (rate : ℕ) (rs : List (List ℕ)) → Choice n l a b m rate rs → choice? n l a b m rate rs ≡ true
  choice_complete a b m rate rs h =
      and_from (leb 2 (length rs)) (every (route? n a b) rs && carries? n l m rate rs) (le-leb 2 (length rs) h.0.0)
      (and_from (every (route? n a b) rs) (carries? n l m rate rs) (each_every (route? n a b) (Route n a b) (λ x. route_complete n a b x) rs h.0.1) (carries_complete m rate rs h.1))

  module _ (a b : ℕ) where
    pub pair_sound : (m : Mode) (rate : ℕ) (p : List (List ℕ) → Bool) → pair? n l a b m rate p ≡ true → (rs : List (List ℕ)) × Choice n l a b m rate rs × (p rs ≡ true)
    pair_sound m rate p h =
        let u = some_in (λ x. some (λ y. carries? n l m rate (x ∷ y ∷ []) && p (x ∷ y ∷ [])) (routes n a b)) (routes n a b) h in
        let x = u.0 in
        let v = some_in (λ y. carries? n l m rate (x ∷ y ∷ []) && p (x ∷ y ∷ [])) (routes n a b) u.2 in
        let y = v.0 in
        let w = and_parts (carries? n l m rate (x ∷ y ∷ [])) (p (x ∷ y ∷ [])) v.2 in
        (x ∷ y ∷ [], ((omega arith, (routes_only n a b x u.1, (routes_only n a b y v.1, tt))), carries_sound m rate (x ∷ y ∷ []) w.0), w.1)

    pub pair_complete : Proper n → (m : Mode) (rate : ℕ) (rs : List (List ℕ)) → Choice n l a b m rate rs → pair? n l a b m rate (λ rs. true) ≡ true
    pair_complete g m rate rs choice =
        let u = first_of_two n l a b m rate rs choice in
        let x = get_or rs 0 [] in let y = get_or rs 1 [] in
        in_some (λ x. some (λ y. carries? n l m rate (x ∷ y ∷ []) && true) (routes n a b)) (routes n a b) x (routes_has n g a b x u.0.1.0)
        (in_some (λ y. carries? n l m rate (x ∷ y ∷ []) && true) (routes n a b) y (routes_has n g a b y u.0.1.1.0)
        (and_from (carries? n l m rate (x ∷ y ∷ [])) true (carries_complete m rate (x ∷ y ∷ []) u.1) refl))

    -- each route of a set that can carry the rate is usable by itself
    pub usable_has : Proper n → (m : Mode) (rate : ℕ) (rs : List (List ℕ)) → Choice n l a b m rate rs → (x : List ℕ) → In x rs → In x (usable n l a b rate)
    usable_has g m rate rs choice x i =
        in_kept (λ x. carries? n l OneToOne rate (x ∷ [])) (routes n a b) x (routes_has n g a b x (each_in (Route n a b) rs choice.0.1 x i))
        (carries_complete OneToOne rate (x ∷ []) (λ c t.
        let r = some_times c (x ∷ []) t in
        let e : uses c x ≡ true = elim r.1 [ inl e ↦ subst (λ z. uses c z ≡ true) e r.2 | inr j ↦ absurd j ] in
        ((choice.1 c (times_some c rs x i e)).0, tt)))
