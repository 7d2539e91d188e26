-- The search for the widest rate: what is known of the rates on either side. Assumes nothing.
use Rattle.std.proofs.Common.{◌≡◌, ℕ, suc, ◌+◌, ◌-◌, ◌/◌, ◌^◌, ◌<◌, ◌≤◌, false, ◌⊎◌, Ok, Err, Result, refl, sym, subst, inl, inr, ⊎_elim, arith}
use native.Mathlib.Nat.{two-pow-succ}
use Rattle.std.specs.Result.{result_or}
use Rattle.std.proofs.lemmas.Bool.{both_ways}
use Rattle.network.specs.declared.refusal.Refusal.{Refusal}
use Rattle.network.specs.declared.refusal.Refusal.TheVariants as refusal
use Rattle.network.specs.Network.{Network, Proper}
use Rattle.scale.specs.Measure.{Measure, AtMost, Lawful}
use Rattle.promise.specs.declared.Mode.{Mode}
use Rattle.promise.specs.Ledger.{Ledger}
use Rattle.promise.specs.Promise.{Widest}
use Rattle.promise.proofs.Plans.{Below, below_more, none_within_from_safest, not_no_pair, widest}
use Rattle.tables.specs.Standing.{route_of}
use Rattle.plan.specs.declared.plan.Plan.{Plan}
use Rattle.plan.specs.Planned.{SafestPlan, Declined, WidestWithin}

-- after that many turns of twenty, no more than this lies between the two rates
abbrev pub Width : ℕ → ℕ → ℕ → Type 0
Width i low high = (low < high) × (high ≤ 1000001) × (high ≤ low + 2 ^ (20 - i))

half_left : (i : ℕ) → i < 20 → 2 ^ (20 - i) ≡ 2 ^ (20 - (i + 1)) + 2 ^ (20 - (i + 1))
half_left i h =
    let e : suc (20 - (i + 1)) ≡ 20 - i = omega arith in
    let P : ℕ → Type 0 = λ k. 2 ^ k ≡ 2 ^ (20 - (i + 1)) + 2 ^ (20 - (i + 1)) in
    subst P e (two-pow-succ (20 - (i + 1)))

pub width_up : (i low high : ℕ) → i < 20 → low + 1 < high → Width i low high → Width (i + 1) ((low + high) / 2) high
width_up i low high h gap w = (omega arith, omega arith, omega (arith, half_left i h))

pub width_down : (i low high : ℕ) → i < 20 → low + 1 < high → Width i low high → Width (i + 1) low ((low + high) / 2)
width_down i low high h gap w = (omega arith, omega arith, omega (arith, half_left i h))

module _ {V : Type 0} (s : Measure V) (lawful : Lawful s) (n : Network) (l : Ledger) (a b : ℕ) (m : Mode) (limit : V) where
  -- a safest pair beyond the limit: some set can carry the rate, and none is within the limit
  pub beyond : Proper n → s.value limit → (r : ℕ) (p : Plan V) → SafestPlan s n l a b m r p → s.at_most p.cost limit ≡ false → Declined s n l a b m r limit refusal.Limit
  beyond proper good r p safe over =
      inr (
        refl,
        not_no_pair s lawful n l a b m r r (route_of p.first) (route_of p.second) p.cost safe (omega arith),
        none_within_from_safest s lawful n l a b m proper r (route_of p.first) (route_of p.second) p.cost limit good safe (both_ways (s.at_most p.cost limit) over),
      )

  -- at the upper rate there is none, or it is past the largest rate
  abbrev pub Lacked : ℕ → Refusal → Type 0
  Lacked high why = (high ≡ 1000001) ⊎ Declined s n l a b m high limit why

  -- at the lower rate there is the safest pair within the limit that was found; at 0 there is none yet, and it is known why
  abbrev Found : ℕ → ℕ → Result (ℕ × Plan V) Refusal → Type 0
  Found low high (Ok p) = (p.0 ≡ low) × (1 ≤ low) × SafestPlan s n l a b m low p.1 × AtMost s p.1.cost limit
  Found low high (Err why) = (low ≡ 0) × Lacked high why

  -- the rates that can be had within the limit are below the upper rate
  pub record Between (low high : ℕ) (found : Result (ℕ × Plan V) Refusal) : Type 0 where
    pub had : Found low high found
    pub below : Below s lawful n l a b m high limit

  -- a turn raises the lower rate, or lowers the upper
  pub raised : (low high rate : ℕ) (found : Result (ℕ × Plan V) Refusal) (p : Plan V) → 1 ≤ rate → SafestPlan s n l a b m rate p × AtMost s p.cost limit → Between low high found → Between rate high (Ok (rate, p))
  raised low high rate found p some safe known = record { had = (refl, some, safe.0, safe.1); below = known.below }

  declined_below : (rate : ℕ) (why : Refusal) → Declined s n l a b m rate limit why → Below s lawful n l a b m rate limit
  declined_below rate why (inl none) = below_more s lawful n l a b m rate limit (inl none.1)
  declined_below rate why (inr none) = below_more s lawful n l a b m rate limit (inr none.2)

  pub lowered : (low high rate : ℕ) (found : Result (ℕ × Plan V) Refusal) (why : Refusal) → Declined s n l a b m rate limit why → Between low high found → Between low rate (result_or found (Err why))
  lowered low high rate (Ok p) why none known = record { had = known.had; below = declined_below rate why none }
  lowered low high rate (Err e) why none known = record { had = (known.had.0, inr none); below = declined_below rate why none }

  -- the end of the search: a rate to be had and none above it, or none to be had, at rate 1 either
  pub searched : (low high : ℕ) (found : Result (ℕ × Plan V) Refusal) → low < high → high ≤ low + 1 → high ≤ 1000001 → Between low high found → WidestWithin s n l a b m limit found
  searched low high (Ok p) o gap most known =
      let e : high ≡ low + 1 = omega arith in
      let had = known.had in
      subst (λ r. Widest s n l a b m limit r (route_of p.1.first) (route_of p.1.second) p.1.cost) (sym had.0)
      (widest s lawful n l a b m low (route_of p.1.first) (route_of p.1.second) p.1.cost limit had.1 (omega arith) had.2 had.3
      (subst (λ k. Below s lawful n l a b m k limit) e known.below))
  searched low high (Err why) o gap most known =
      let zero : low ≡ 0 = known.had.0 in
      let e : high ≡ 1 = omega arith in
      ⊎_elim (λ (f : high ≡ 1000001). absurd (omega (arith, e, f))) (λ d. subst (λ k. Declined s n l a b m k limit why) e d) known.had.1
