-- What a call for two routes answers, by the ledger. Assumes nothing.
use Rattle.std.specs.Prelude.{◌≡◌, ℕ, ◌⊎◌, Some, None, Ok, Err, Option, Result}
use Rattle.network.specs.declared.refusal.Refusal.{Refusal}
use Rattle.network.specs.declared.refusal.Refusal.TheVariants as refusal
use Rattle.network.specs.Network.{Network}
use Rattle.scale.specs.Measure.{Measure, AtMost}
use Rattle.promise.specs.declared.Mode.{Mode}
use Rattle.promise.specs.Ledger.{Ledger}
use Rattle.promise.specs.Promise.{NoPair, NoneWithin, Safest, Widest}
use Rattle.tables.specs.Standing.{route_of}
use Rattle.plan.specs.declared.plan.Plan.{Plan}

module _ {V : Type 0} (s : Measure V) (n : Network) (l : Ledger) (a b : ℕ) (m : Mode) where
  -- the plan is a safest pair at the rate, with its cost
  abbrev pub SafestPlan : ℕ → Plan V → Type 0
  SafestPlan r p = Safest s n l a b m r (route_of p.first) (route_of p.second) p.cost

  -- a safest pair, or nothing where no set can carry the rate
  abbrev pub SafestAt : ℕ → Option (Plan V) → Type 0
  SafestAt r None = NoPair s n l a b m r
  SafestAt r (Some p) = SafestPlan r p

  -- why there is no pair within the limit: no set can carry the rate, or some can and none of them is within the limit
  abbrev pub Declined : ℕ → V → Refusal → Type 0
  Declined r limit e = ((e ≡ refusal.NoPair) × NoPair s n l a b m r) ⊎ ((e ≡ refusal.Limit) × (NoPair s n l a b m r → ⊥) × NoneWithin s n l a b m r limit)

  -- a safest pair that is within the limit, or why there is none
  abbrev pub SafestWithin : ℕ → V → Result (Plan V) Refusal → Type 0
  SafestWithin r limit (Ok p) = SafestPlan r p × AtMost s p.cost limit
  SafestWithin r limit (Err e) = Declined r limit e

  -- the largest rate that some set within the limit could carry, with a safest pair at it; or why there is none at rate 1
  abbrev pub WidestWithin : V → Result (ℕ × Plan V) Refusal → Type 0
  WidestWithin limit (Ok p) = Widest s n l a b m limit p.0 (route_of p.1.first) (route_of p.1.second) p.1.cost
  WidestWithin limit (Err e) = Declined 1 limit e
