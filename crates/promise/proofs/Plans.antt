-- From the search's answer at one rate to a safest pair, and from rate to rate to the widest. Assumes nothing.
use Rattle.std.proofs.Common.{◌≡◌, ℕ, ◌+◌, ◌<◌, ◌≤◌, true, ◌⊎◌, List, [], ◌∷◌, get_or, take, sym, refl, subst, ⊎_elim, arith}
use Rattle.std.proofs.lemmas.Bool.{cases_lt, and_parts}
use Rattle.search.specs.declared.Arc.{Arc}
use Rattle.network.specs.Network.{Network, Proper}
use Rattle.network.specs.Routes.{uses, shared}
use Rattle.promise.specs.declared.Mode.{Mode}
use Rattle.promise.specs.Ledger.{Ledger, Choice}
use Rattle.scale.specs.Measure.{Measure, AtMost, Lawful, shared_cost}
use Rattle.promise.specs.Promise.{NoPair, NoneWithin, Safest, Widest}
use Rattle.search.specs.Graph as graph
use Rattle.promise.specs.Lanes.{Lanes}
use Rattle.promise.proofs.Members.{in_from_uses}
use Rattle.promise.proofs.Carrying.{slower, first_of_two}
use Rattle.promise.proofs.ArcPairs.{pair_carries, must_shared}
use Rattle.scale.proofs.Costs.{cost_value, cheaper}

module _ {V : Type 0} (s : Measure V) (lawful : Lawful s) (n : Network) (l : Ledger) (a b : ℕ) (m : Mode) where
  module _ (r : ℕ) (g : List Arc) (lanes : Lanes n l m r g) where
    -- what both routes use, every set that can carry the rate shares
    shared_by_all : (first second : List ℕ) → graph.Shares g a b first second → (rs : List (List ℕ)) → Choice n l a b m r rs → (c : ℕ) → shared c (first ∷ second ∷ []) ≡ true → shared c rs ≡ true
    shared_by_all first second shares rs ch c e =
        let p = and_parts (uses c first) (shared c (second ∷ [])) e in
        let q = and_parts (uses c second) (shared c []) p.1 in
        must_shared n l m r g lanes a b c (shares c (in_from_uses c first p.0) (in_from_uses c second q.0)).1 rs ch

    pub safest_routes : Proper n → (first second : List ℕ) → graph.Route g a b first → graph.Route g a b second → graph.Shares g a b first second → Safest s n l a b m r first second (shared_cost s n (first ∷ second ∷ []))
    safest_routes proper first second p q shares = record {
      choice = pair_carries n l m r g lanes a b first second p q shares;
      shares = refl;
      least = λ rs ch. cheaper s lawful n proper (first ∷ second ∷ []) rs (shared_by_all first second shares rs ch);
    }

    -- the search's pair is a safest one
    pub safest : Proper n → (k j : ℕ) (before first before' second : List ℕ) → graph.Pair g a b k j before first before' second → Safest s n l a b m r (take k first) (take j second) (shared_cost s n (take k first ∷ take j second ∷ []))
    safest proper k j before first before' second pair = safest_routes proper (take k first) (take j second) pair.route_first pair.route_second pair.shares

  -- some set that can carry the rate is within the limit
  abbrev pub SomeWithin : ℕ → V → Type 0
  SomeWithin r limit = (rs : List (List ℕ)) × Choice n l a b m r rs × AtMost s (shared_cost s n rs) limit

  -- a safest pair costs no more than any set that can carry a rate as large
  pub least_above : (r r' : ℕ) (first second : List ℕ) (v : V) → Safest s n l a b m r' first second v → r' ≤ r → (rs : List (List ℕ)) → Choice n l a b m r rs → AtMost s v (shared_cost s n rs)
  least_above r r' first second v safe h rs ch = safe.least rs (slower n l a b m r r' rs h ch)

  -- what fails at a rate fails at every larger one
  pub no_pair_above : (k r : ℕ) → k ≤ r → NoPair s n l a b m k → NoPair s n l a b m r
  no_pair_above k r h none rs ch = none rs (slower n l a b m r k rs h ch)

  pub none_within_above : (k r : ℕ) (limit : V) → k ≤ r → NoneWithin s n l a b m k limit → NoneWithin s n l a b m r limit
  none_within_above k r limit h none rs ch w = none rs (slower n l a b m r k rs h ch) w

  pub none_within_from_no_pair : (r : ℕ) (limit : V) → NoPair s n l a b m r → NoneWithin s n l a b m r limit
  none_within_from_no_pair r limit none rs ch w = none rs ch

  -- a step of the search for the widest rate: down from a pair within the limit
  pub widest_step_yes : (k r' : ℕ) (first second : List ℕ) (v limit : V) → Safest s n l a b m k first second v → AtMost s v limit → r' ≤ k → SomeWithin r' limit
  widest_step_yes k r' first second v limit safe within h = (
    first ∷ second ∷ [],
    slower n l a b m k r' (first ∷ second ∷ []) h safe.choice,
    subst (λ x. AtMost s x limit) safe.shares within,
  )

  -- and up from a rate at which no set is within the limit
  pub widest_step_no : (k r' : ℕ) (limit : V) → NoPair s n l a b m k ⊎ NoneWithin s n l a b m k limit → k ≤ r' → NoneWithin s n l a b m r' limit
  widest_step_no k r' limit none h =
      ⊎_elim
      (λ p. none_within_from_no_pair r' limit (no_pair_above k r' h p))
      (λ w. none_within_above k r' limit h w)
      none

  pub below_from_none : (k r' : ℕ) (limit : V) → NoPair s n l a b m k ⊎ NoneWithin s n l a b m k limit → (rs : List (List ℕ)) → Choice n l a b m r' rs → AtMost s (shared_cost s n rs) limit → r' < k
  below_from_none k r' limit none rs ch w =
      ⊎_elim (λ h. h) (λ h. absurd (widest_step_no k r' limit none h rs ch w)) (cases_lt r' k)

  -- where some set is within the limit, so is a safest pair
  pub within_from_some : Proper n → (r : ℕ) (first second : List ℕ) (v limit : V) → s.value limit → Safest s n l a b m r first second v → SomeWithin r limit → AtMost s v limit
  within_from_some proper r first second v limit good safe some =
      let v_value : s.value v = subst s.value (sym safe.shares) (cost_value s lawful n proper (first ∷ second ∷ [])) in
      lawful.transitive v (shared_cost s n some.0) limit v_value (cost_value s lawful n proper some.0) good (safe.least some.0 some.1) some.2

  -- A safest pair beyond the limit: then every set is. The limit has to be a value, which code knows of every limit that
  -- it is handed: of what is no value, a lawful scale may say anything, and a call could have no right answer.
  pub none_within_from_safest : Proper n → (r : ℕ) (first second : List ℕ) (v limit : V) → s.value limit → Safest s n l a b m r first second v → (AtMost s v limit → ⊥) → NoneWithin s n l a b m r limit
  none_within_from_safest proper r first second v limit good safe beyond rs ch w = beyond (within_from_some proper r first second v limit good safe (rs, ch, w))

  -- a pair passes the checks that no set can carry a rate as low, and that none is within the limit
  pub not_no_pair : (k r' : ℕ) (first second : List ℕ) (v : V) → Safest s n l a b m k first second v → r' ≤ k → NoPair s n l a b m r' → ⊥
  not_no_pair k r' first second v safe h none = none (first ∷ second ∷ []) (slower n l a b m k r' (first ∷ second ∷ []) h safe.choice)

  pub not_none_within : (k r' : ℕ) (first second : List ℕ) (v limit : V) → Safest s n l a b m k first second v → AtMost s v limit → r' ≤ k → NoneWithin s n l a b m r' limit → ⊥
  not_none_within k r' first second v limit safe within h none =
      let some = widest_step_yes k r' first second v limit safe within h in
      none some.0 some.1 some.2

  -- every rate that some set within the limit can carry is below k, which holds of a number past the largest rate
  abbrev pub Below : ℕ → V → Type 0
  Below k limit = (r' : ℕ) → r' ≤ 1000000 → (rs : List (List ℕ)) → Choice n l a b m r' rs → AtMost s (shared_cost s n rs) limit → r' < k

  pub below_start : (limit : V) → Below 1000001 limit
  below_start limit r' h rs ch w = omega (arith, h)

  pub below_more : (k : ℕ) (limit : V) → NoPair s n l a b m k ⊎ NoneWithin s n l a b m k limit → Below k limit
  below_more k limit none r' h rs ch w = below_from_none k r' limit none rs ch w

  -- the end of the search: a pair within the limit, and nothing from the next rate on
  pub widest : (r : ℕ) (first second : List ℕ) (v limit : V) → 1 ≤ r → r ≤ 1000000 → Safest s n l a b m r first second v → AtMost s v limit → Below (r + 1) limit → Widest s n l a b m limit r first second v
  widest r first second v limit some most safe within below = record {
    some = some;
    most = most;
    safest_pair = safe;
    within = within;
    largest = λ r' h rs ch w. omega (arith, below r' h rs ch w);
  }

  -- where a set can carry the rate, a pair can
  pub pair_from_set : (r : ℕ) (rs : List (List ℕ)) → Choice n l a b m r rs → (first : List ℕ) × (second : List ℕ) × Choice n l a b m r (first ∷ second ∷ [])
  pair_from_set r rs ch = (get_or rs 0 [], get_or rs 1 [], first_of_two n l a b m r rs ch)
