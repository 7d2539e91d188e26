-- From a plan to the answer of a call.
use Rattle.std.proofs.Common.{◌≡◌, ℕ, ◌<◌, ◌≤◌, ◌⊎◌, List, [], ◌∷◌, ◌++◌, length, take, drop, vec_items, vec_len, Ok, Err, Result, sym, ap, ◌∙◌, subst, inl, inr, arith, length-append, length-drop}
use Rattle.std.proofs.lemmas.List.{length-map, take-append-le, take_all}
use Rattle.std.proofs.lemmas.List.Prefix.{front_rest}
use Rattle.network.specs.Network.{Network}
use Rattle.scale.specs.Measure.{Measure, Lawful}
use Rattle.promise.specs.Ledger.{Ledger}
use Rattle.network.specs.declared.refusal.Refusal.{Refusal}
use Rattle.network.specs.Refusals.{number_of}
use Rattle.network.specs.Checks.{Check, check, Passed}
use Rattle.promise.specs.declared.Mode.{Mode}
use Rattle.promise.specs.Promise.{BadPlaces, BadRate, NoPair, NoneWithin, Stands, feed_number, checks, plan, book}
use Rattle.promise.proofs.Plans.{not_no_pair, not_none_within}
use Rattle.tables.specs.declared.rows.Tables.{Tables}
use Rattle.tables.specs.Standing.{ledger_of, feed_of, route_of}
use Rattle.plan.specs.declared.plan.Plan.{Plan}
use Rattle.plan.specs.Planned.{SafestWithin}
use Rattle.book.specs.Answered.{Checked}

-- a route at the start of a list: what stands there now, and what stands past it as before
pub written : (n : ℕ) (xs list list' : List ℕ) → n ≤ length list → length list' ≡ length list → list' ≡ xs ++ drop n list → (take n list' ≡ xs) × (drop n list' ≡ drop n list)
written n xs list list' h e w =
    let k : n ≡ length xs = omega (arith, ap length w, length-append xs (drop n list), length-drop n list) in (
      subst (λ (z : List ℕ). take n z ≡ xs) (sym w) (take-append-le n xs (drop n list) (omega arith) ∙ take_all n xs (omega arith)),
      subst (λ (z : ℕ). drop z list' ≡ drop n list) (sym k) (front_rest list' xs (drop n list) w),
    )

-- a check that passes, and then others
checked_next : {A : Type 0} (p : Check) (ps : List Check) (r : Result A Refusal) → (p.fails → ⊥) → Checked ps r → Checked (p ∷ ps) r
checked_next p ps (Ok x) h c = (h, c)
checked_next p ps (Err e) h c = inr (h, c)

-- checks that pass, and then others
module _ {A : Type 0} (rest : List Check) (r : Result A Refusal) (c : Checked rest r) where
  checked_after : (front : List Check) → Passed front → Checked (front ++ rest) r
  checked_after [] pass = c
  checked_after (p ∷ front) pass = checked_next p (front ++ rest) r pass.0 (checked_after front pass.1)

module _ {V : Type 0} (s : Measure V) (lawful : Lawful s) (n : Network) (l : Ledger) (k a b rate : ℕ) (m : Mode) (limit : V) (first second : ℕ) where
  -- the checks of a booking that come before the search for its routes, and those that the search decides
  abbrev pub before_search : List Check
  before_search = check 9 (k ≡ 0) ∷ check 10 (Stands feed_number k l.feeds) ∷ check 12 (32 ≤ length l.feeds) ∷ check 13 (BadPlaces n a b) ∷ check 14 (BadRate rate) ∷ check 15 ((first < 127) ⊎ (second < 127)) ∷ []

  by_search : (r : Result (Plan V) Refusal) → SafestWithin s n l a b m rate limit r → Checked (check 16 (NoPair s n l a b m rate) ∷ check 17 (NoneWithin s n l a b m rate limit) ∷ []) r
  by_search (Ok p) h =
      let f = route_of p.first in
      let g = route_of p.second in
      (not_no_pair s lawful n l a b m rate rate f g p.cost h.0 (omega arith), (not_none_within s lawful n l a b m rate rate f g p.cost limit h.0 h.1 (omega arith), tt))
  by_search (Err e) (inl h) = inl (ap number_of h.0, h.1)
  by_search (Err e) (inr h) = inr (h.1, inl (ap number_of h.0, h.2))

  pub booking_checked : (r : Result (Plan V) Refusal) → Passed before_search → SafestWithin s n l a b m rate limit r → Checked (checks s n l (plan (book k a b rate m limit) first second)) r
  booking_checked r pass h = checked_after (check 16 (NoPair s n l a b m rate) ∷ check 17 (NoneWithin s n l a b m rate limit) ∷ []) r (by_search r h) before_search pass

-- as many feeds stand in the ledger as in the tables
pub feeds_long : (t : Tables) → length (ledger_of t).feeds ≡ vec_len t.feeds
feeds_long t = omega (arith, length-map (vec_items t.feeds) feed_of, t.feeds.ok.0)
