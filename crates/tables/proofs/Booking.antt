-- What a book's answers rest on: the ledger's bandwidth left is the tables', a pair that can carry a rate takes no more than is left,
-- and a feed's place tells how its routes use a circuit. Assumes nothing.
use Rattle.std.proofs.Common.{◌≡◌, ℕ, zero, suc, ◌+◌, ◌*◌, ◌<◌, ◌≤◌, Bool, true, false, cond, ◌||◌, List, [], ◌∷◌, length, get_or, refl, inl, inr, zero-mul, arith}
use Rattle.network.specs.Network.{Network}
use Rattle.network.specs.Routes.{uses, times}
use Rattle.scale.specs.Measure.{Measure}
use Rattle.promise.specs.declared.Mode.{Mode}
use Rattle.promise.specs.declared.Mode.TheVariants.{OnePlusOne, OneToOne}
use Rattle.promise.specs.Ledger as ledger
use Rattle.promise.specs.Ledger.{Ledger, left, takes, Carries}
use Rattle.promise.specs.Promise.{Used}
use Rattle.tables.specs.declared.rows.Tables.{Tables}
use Rattle.tables.specs.Standing.{Keeps, ledger_of, left_at}

-- the bandwidth left by the ledger is what the tables have
pub left_kept : (n : Network) (t : Tables) → Keeps n t → (c : ℕ) → c < length n.circuits → left_at t c ≡ left n (ledger_of t) c
left_kept n t keeps c h = omega (arith, keeps.balanced c h)

once : (rate room : ℕ) (a b : Bool) → (0 < cond a 1 0 + (cond b 1 0 + 0) → rate ≤ room) → cond (a || b) rate 0 ≤ room
once rate room true true h = h (omega arith)
once rate room true false h = h (omega arith)
once rate room false true h = h (omega arith)
once rate room false false h = omega arith

each : (rate room : ℕ) (k : ℕ) → (0 < k → k * rate ≤ room) → k * rate ≤ room
each rate room zero h = simp zero-mul (omega arith)
each rate room (suc k) h = h (omega arith)

-- a pair that can carry the rate takes no more than is left
pub takes_fits : (n : Network) (l : Ledger) (m : Mode) (rate : ℕ) (first second : List ℕ) → Carries n l m rate (first ∷ second ∷ []) → (c : ℕ) → takes m rate first second c ≤ left n l c
takes_fits n l OnePlusOne rate first second carries c = each rate (left n l c) (times c (first ∷ second ∷ [])) (λ h. (carries c h).1)
takes_fits n l OneToOne rate first second carries c = once rate (left n l c) (uses c first) (uses c second) (λ h. (carries c h).0.1)

-- the feed at a place is one of its number
pub used_at : {V : Type 0} (s : Measure V) (n : Network) (l : Ledger) (k c : ℕ) (fs : List ledger.Feed) (i : ℕ) (d : ledger.Feed) → i < length fs → (get_or fs i d).number ≡ k
    → Used s n l k c (times c ((get_or fs i d).first ∷ (get_or fs i d).second ∷ [])) fs
used_at s n l k c [] i d h e = absurd (omega arith)
used_at s n l k c (f ∷ fs) zero d h e = inl (e, refl)
used_at s n l k c (f ∷ fs) (suc i) d h e = inr (used_at s n l k c fs i d (omega arith) e)
