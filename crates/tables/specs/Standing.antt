-- What the tables stand for: a ledger, and the bandwidth left on each circuit. Assumes nothing.
use Rattle.std.specs.Prelude.{◌≡◌, ℕ, ◌+◌, ◌-◌, ◌^◌, ◌<◌, min, List, [], ◌∷◌, map, length, get_or, take, vec_items, vec_len, slice_index_or}
use Rattle.std.specs.Vec.{with_item}
use Rattle.std.proofs.Props.{props}
use Rattle.std.specs.Coded.{×_prop, →_prop, Unit-prop}
use Rattle.network.specs.Network.{Network, circuit}
use Rattle.promise.specs.declared.Mode.TheVariants.{OnePlusOne}
use Rattle.promise.specs.Ledger as ledger
use Rattle.promise.specs.Ledger.{Ledger, takes, taken}
use Rattle.promise.specs.Promise.{Stands, feed_number, notice_number}
use Rattle.tables.specs.declared.rows.Route.{Route}
use Rattle.tables.specs.declared.rows.CircuitState.{CircuitState}
use Rattle.tables.specs.declared.rows.Feed.{Feed}
use Rattle.tables.specs.declared.rows.Notice.{Notice}
use Rattle.tables.specs.declared.rows.Tables.{Tables}

-- the circuits of a route
abbrev pub route_of : Route → List ℕ
route_of r = take r.length r.circuits

-- the ledger's entry for a feed
abbrev pub feed_of : Feed → ledger.Feed
feed_of f = record { number = f.number; from = f.from; to = f.to; rate = f.rate; mode = f.mode; first = route_of f.first; second = route_of f.second }

-- the ledger's entry for a notice
abbrev pub notice_of : Notice → ledger.Notice
notice_of x = record { number = x.number; circuit = x.circuit }

-- what a feed takes on a circuit
abbrev pub taken_by : ledger.Feed → ℕ → ℕ
taken_by f c = takes f.mode f.rate f.first f.second c

-- the ledger that the tables stand for
abbrev pub ledger_of : Tables → Ledger
ledger_of t = record { feeds = map feed_of (vec_items t.feeds); notices = map notice_of (vec_items t.notices) }

abbrev pub no_feed : ledger.Feed
no_feed = record { number = 0; from = 0; to = 0; rate = 0; mode = OnePlusOne; first = []; second = [] }

abbrev pub no_notice : ledger.Notice
no_notice = record { number = 0; circuit = 0 }

-- the standing feed at a place of the list
abbrev pub feed_at : Tables → ℕ → ledger.Feed
feed_at t i = slice_index_or (ledger_of t).feeds i no_feed

-- the standing notice at a place of the list
abbrev pub notice_at : Tables → ℕ → ledger.Notice
notice_at t i = slice_index_or (ledger_of t).notices i no_notice

abbrev pub idle : CircuitState
idle = record { left = 0 }

-- the bandwidth left that the tables have for a circuit
abbrev pub left_at : Tables → ℕ → ℕ
left_at t c = (get_or (vec_items t.circuits) c idle).left

-- the tables with a circuit's state changed to this
abbrev pub with_circuit : Tables → ℕ → CircuitState → Tables
with_circuit t c w = record { circuits = with_item t.circuits c w; feeds = t.feeds; notices = t.notices; few_circuits = t.few_circuits; few_feeds = t.few_feeds; few_notices = t.few_notices; feed_room = t.feed_room; notice_room = t.notice_room }

-- there are as many circuits, and the same feeds and notices stand: only what is left on the circuits may differ
pub record SameButLeft (old new : Tables) : Type 0 where
  pub circuits : vec_len new.circuits ≡ vec_len old.circuits
  pub feeds : new.feeds ≡ old.feeds
  pub notices : new.notices ≡ old.notices

-- what the feed takes is off what was left, on each circuit
abbrev pub TakenOff : ledger.Feed → Tables → Tables → Type 0
TakenOff f old new = (c : ℕ) → c < vec_len old.circuits → left_at new c ≡ left_at old c - taken_by f c

-- what the feed takes is added to what was left, on each circuit, up to the largest number that fits
abbrev pub GivenBack : ledger.Feed → Tables → Tables → Type 0
GivenBack f old new = (c : ℕ) → c < vec_len old.circuits → left_at new c ≡ min (left_at old c + taken_by f c) (2 ^ 32 - 1)

-- no two records of the list have the same number
abbrev pub Apart : {A : Type 0} → (A → ℕ) → List A → Type 0
Apart number [] = Unit {0}
Apart number (x ∷ xs) = (Stands number (number x) xs → ⊥) × Apart number xs

-- The tables are those of a book over this network: they have each of its circuits, and what is left on a circuit, with
-- what the standing feeds take of it, is its bandwidth. No feed or notice number stands twice.
pub record Keeps (n : Network) (t : Tables) : Type 0 where
  pub long : vec_len t.circuits ≡ length n.circuits
  pub balanced : (c : ℕ) → c < length n.circuits → left_at t c + taken (ledger_of t).feeds c ≡ (circuit n c).bandwidth
  pub feeds_apart : Apart feed_number (ledger_of t).feeds
  pub notices_apart : Apart notice_number (ledger_of t).notices

-- that a list's numbers stand once each has one proof at most
pub Apart-prop : {A : Type 0} (number : A → ℕ) (xs : List A) → IsProp (Apart number xs)
Apart-prop number [] = Unit-prop
Apart-prop number (x ∷ xs) = ×_prop (→_prop (λ a b. absurd a)) (Apart-prop number xs)

-- that tables are those of a book over a network has one proof at most, so a ghost field may say it
pub Keeps-prop : (n : Network) (t : Tables) → IsProp (Keeps n t)
Keeps-prop n t = Prim.hlevel (Apart-prop, props)
