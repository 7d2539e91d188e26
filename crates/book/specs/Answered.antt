-- What a call on a book answers, as the ledger is told it, and what every call on a book promises. Assumes nothing.
use Rattle.std.specs.Prelude.{◌≡◌, ℕ, ◌≤◌, Bool, cond, List, take, drop, Ok, Err, Result}
use Rattle.network.specs.declared.refusal.Refusal.{Refusal}
use Rattle.network.specs.Refusals.{number_of}
use Rattle.network.specs.Checks.{Check, First, Passed}
use Rattle.network.specs.Network.{Network}
use Rattle.scale.specs.Measure.{Measure}
use Rattle.promise.specs.Promise.{Call, Answer, refused, pair, done, told, Right, after}
use Rattle.tables.specs.declared.rows.Tables.{Tables}
use Rattle.tables.specs.Standing.{ledger_of, Keeps}
use Rattle.book.specs.declared.answer.Pair.{Pair}

-- Checks in their order: none fails, or the refusal is that of the first that fails.
abbrev pub Checked : {A : Type 0} → List Check → Result A Refusal → Type 0
Checked checks (Ok x) = Passed checks
Checked checks (Err e) = First (number_of e) checks

-- What each call promises: it is answered right by the ledger that the tables stand for before it, and afterwards they
-- stand for the ledger that has been told the call and its answer.
pub record Answered {V : Type 0} (s : Measure V) (n : Network) (before later : Tables) (call : Call V) (answer : Answer V) : Type 0 where
  pub right : Right s n (ledger_of before) call answer
  pub told_ledger : ledger_of later ≡ after (ledger_of before) call answer
  pub keeps : Keeps n later

-- the answer of a call that plans: the pair stands at the start of the two lists
abbrev pub planned : {V : Type 0} → Result (Pair V) Refusal → List ℕ → List ℕ → Answer V
planned (Ok p) first second = pair p.rate (take p.lengths.0 first) (take p.lengths.1 second) p.cost
planned (Err e) first second = refused (number_of e)

-- the lists before and after a call that plans: a refusal leaves them, and a pair leaves what stands past its routes
abbrev pub ListsKept : {V : Type 0} → Result (Pair V) Refusal → List ℕ → List ℕ → List ℕ → List ℕ → Type 0
ListsKept (Ok p) first first' second second' = (p.lengths.0 ≤ 127) × (p.lengths.1 ≤ 127) × (drop p.lengths.0 first' ≡ drop p.lengths.0 first) × (drop p.lengths.1 second' ≡ drop p.lengths.1 second)
ListsKept (Err e) first first' second second' = (first' ≡ first) × (second' ≡ second)

-- the answers of a call that acts, of one that tells a number, and of one that tells whether
abbrev pub acted : {V : Type 0} → Result (Unit {0}) Refusal → Answer V
acted (Ok x) = done
acted (Err e) = refused (number_of e)

abbrev pub told_number : {V : Type 0} → Result ℕ Refusal → Answer V
told_number (Ok x) = told x
told_number (Err e) = refused (number_of e)

abbrev pub told_whether : {V : Type 0} → Result Bool Refusal → Answer V
told_whether (Ok b) = told (cond b 1 0)
told_whether (Err e) = refused (number_of e)
