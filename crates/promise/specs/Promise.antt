-- What the book promises of every run of calls, by the ledger before each call. Assumes nothing.
use Rattle.std.specs.Prelude.{◌≡◌, ℕ, ◌+◌, ◌<◌, ◌≤◌, cond, ◌⊎◌, List, [], ◌∷◌, ◌++◌, length, ◌==◌}
use Rattle.network.specs.Checks.{Check, check, First, Passed}
use Rattle.network.specs.Network.{Network, circuit}
use Rattle.network.specs.Routes.{times}
use Rattle.scale.specs.Measure.{Measure, AtMost, shared_cost}
use Rattle.promise.specs.declared.Mode.{Mode}
use Rattle.promise.specs.Ledger.{Feed, Notice, Ledger, nothing_yet, taken, Open, Choice}

-- calls that answer a pair
pub data Plan (V : Type 0) : Type 0 where
  safest : (from to rate : ℕ) → Mode → Plan V
  widest : (from to : ℕ) → Mode → (limit : V) → Plan V
  book : (feed from to rate : ℕ) → Mode → (limit : V) → Plan V

-- calls that answer that they are done
pub data Act : Type 0 where
  release : (feed : ℕ) → Act
  close : (notice circuit : ℕ) → Act
  reopen : (notice : ℕ) → Act

-- calls that tell a number, and change nothing
pub data Tell : Type 0 where
  left : (circuit : ℕ) → Tell
  opens : (circuit : ℕ) → Tell
  uses : (feed circuit : ℕ) → Tell

-- a plan comes with the lengths of its two route lists
pub data Call (V : Type 0) : Type 0 where
  plan : Plan V → (first_room second_room : ℕ) → Call V
  act : Act → Call V
  tell : Tell → Call V

pub data Answer (V : Type 0) : Type 0 where
  refused : (number : ℕ) → Answer V
  pair : (rate : ℕ) (first second : List ℕ) (cost : V) → Answer V
  done : Answer V
  told : ℕ → Answer V

-- a record of that number stands in the list
abbrev pub Stands : {A : Type 0} → (A → ℕ) → ℕ → List A → Type 0
Stands number k [] = ⊥
Stands number k (x ∷ xs) = (number x ≡ k) ⊎ Stands number k xs

-- the list with the records of that number struck out
abbrev pub struck : {A : Type 0} → (A → ℕ) → ℕ → List A → List A
struck number k [] = []
struck number k (x ∷ xs) = cond (number x == k) (struck number k xs) (x ∷ struck number k xs)

abbrev pub feed_number : Feed → ℕ
feed_number f = f.number

abbrev pub notice_number : Notice → ℕ
notice_number x = x.number

-- a place unknown, or both the same
abbrev pub BadPlaces : Network → ℕ → ℕ → Type 0
BadPlaces n a b = (n.places ≤ a) ⊎ ((n.places ≤ b) ⊎ (a ≡ b))

abbrev pub BadRate : ℕ → Type 0
BadRate r = (r ≡ 0) ⊎ (1000000 < r)

abbrev pub NoCircuit : Network → ℕ → Type 0
NoCircuit n c = length n.circuits ≤ c

module _ {V : Type 0} (s : Measure V) (n : Network) (l : Ledger) where
  -- no set can carry the rate
  abbrev pub NoPair : ℕ → ℕ → Mode → ℕ → Type 0
  NoPair a b m r = (rs : List (List ℕ)) → Choice n l a b m r rs → ⊥

  -- none of the sets that can carry the rate is within the limit
  abbrev pub NoneWithin : ℕ → ℕ → Mode → ℕ → V → Type 0
  NoneWithin a b m r limit = (rs : List (List ℕ)) → Choice n l a b m r rs → AtMost s (shared_cost s n rs) limit → ⊥

  -- the checks of a call, in their order; `room` is that of the route lists
  abbrev pub plan_checks : Check → Plan V → List Check
  plan_checks room (safest a b r m) = check 13 (BadPlaces n a b) ∷ check 14 (BadRate r) ∷ room ∷ check 16 (NoPair a b m r) ∷ []
  plan_checks room (widest a b m limit) = check 13 (BadPlaces n a b) ∷ room ∷ check 16 (NoPair a b m 1) ∷ check 17 (NoneWithin a b m 1 limit) ∷ []
  plan_checks room (book k a b r m limit) = check 9 (k ≡ 0) ∷ check 10 (Stands feed_number k l.feeds) ∷ check 12 (32 ≤ length l.feeds) ∷ check 13 (BadPlaces n a b) ∷ check 14 (BadRate r) ∷ room ∷ check 16 (NoPair a b m r) ∷ check 17 (NoneWithin a b m r limit) ∷ []

  abbrev pub act_checks : Act → List Check
  act_checks (release k) = check 9 (k ≡ 0) ∷ check 11 (Stands feed_number k l.feeds → ⊥) ∷ []
  act_checks (close k c) = check 9 (k ≡ 0) ∷ check 10 (Stands notice_number k l.notices) ∷ check 11 (NoCircuit n c) ∷ check 12 (32 ≤ length l.notices) ∷ []
  act_checks (reopen k) = check 9 (k ≡ 0) ∷ check 11 (Stands notice_number k l.notices → ⊥) ∷ []

  abbrev pub tell_checks : Tell → List Check
  tell_checks (left c) = check 11 (NoCircuit n c) ∷ []
  tell_checks (opens c) = check 11 (NoCircuit n c) ∷ []
  tell_checks (uses k c) = check 9 (k ≡ 0) ∷ check 11 ((Stands feed_number k l.feeds → ⊥) ⊎ NoCircuit n c) ∷ []

  abbrev pub checks : Call V → List Check
  checks (plan x p q) = plan_checks (check 15 ((p < 127) ⊎ (q < 127))) x
  checks (act x) = act_checks x
  checks (tell x) = tell_checks x

  -- the pair runs between the places and can carry the rate, the cost is its shared cost, and no set that can carry the rate costs less
  pub record Safest (a b : ℕ) (m : Mode) (r : ℕ) (first second : List ℕ) (cost : V) : Type 0 where
    pub choice : Choice n l a b m r (first ∷ second ∷ [])
    pub shares : cost ≡ shared_cost s n (first ∷ second ∷ [])
    pub least : (rs : List (List ℕ)) → Choice n l a b m r rs → AtMost s cost (shared_cost s n rs)

  -- a safest pair within the limit, at the largest rate that some set within the limit could carry
  pub record Widest (a b : ℕ) (m : Mode) (limit : V) (r : ℕ) (first second : List ℕ) (cost : V) : Type 0 where
    pub some : 1 ≤ r
    pub most : r ≤ 1000000
    pub safest_pair : Safest a b m r first second cost
    pub within : AtMost s cost limit
    pub largest : (r' : ℕ) → r' ≤ 1000000 → (rs : List (List ℕ)) → Choice n l a b m r' rs → AtMost s (shared_cost s n rs) limit → r' ≤ r

  abbrev pub Planned : Plan V → ℕ → List ℕ → List ℕ → V → Type 0
  Planned (safest a b r m) r' first second cost = (r' ≡ r) × Safest a b m r first second cost
  Planned (widest a b m limit) r' first second cost = Widest a b m limit r' first second cost
  Planned (book k a b r m limit) r' first second cost = (r' ≡ r) × Safest a b m r first second cost × AtMost s cost limit

  -- a standing feed of that number has a pair of which so many routes use the circuit
  abbrev pub Used : ℕ → ℕ → ℕ → List Feed → Type 0
  Used k c t [] = ⊥
  Used k c t (f ∷ fs) = ((f.number ≡ k) × (t ≡ times c (f.first ∷ f.second ∷ []))) ⊎ Used k c t fs

  -- the bandwidth left that is told, plus what the standing feeds take, is the register's; 1 is open, 0 is closed
  abbrev pub Told : Tell → ℕ → Type 0
  Told (left c) t = t + taken l.feeds c ≡ (circuit n c).bandwidth
  Told (opens c) t = ((t ≡ 1) × Open l c) ⊎ ((t ≡ 0) × (Open l c → ⊥))
  Told (uses k c) t = Used k c t l.feeds

  -- the answer is right: a refusal where that check is the first to fail, and otherwise what the call is to answer
  abbrev pub Right : Call V → Answer V → Type 0
  Right call (refused k) = First k (checks call)
  Right (plan x p q) (pair r first second cost) = Passed (checks (plan x p q)) × Planned x r first second cost
  Right (plan x p q) done = ⊥
  Right (plan x p q) (told t) = ⊥
  Right (act x) (pair r first second cost) = ⊥
  Right (act x) done = Passed (act_checks x)
  Right (act x) (told t) = ⊥
  Right (tell x) (pair r first second cost) = ⊥
  Right (tell x) done = ⊥
  Right (tell x) (told t) = Passed (tell_checks x) × Told x t

-- the ledger after a plan that answered a pair, and after an act that is done
abbrev pub planned : {V : Type 0} → Ledger → Plan V → List ℕ → List ℕ → Ledger
planned l (safest a b r m) first second = l
planned l (widest a b m limit) first second = l
planned l (book k a b r m limit) first second = record { feeds = l.feeds ++ (record { number = k; from = a; to = b; rate = r; mode = m; first = first; second = second } ∷ []); notices = l.notices }

abbrev pub acted : Ledger → Act → Ledger
acted l (release k) = record { feeds = struck feed_number k l.feeds; notices = l.notices }
acted l (close k c) = record { feeds = l.feeds; notices = l.notices ++ (record { number = k; circuit = c } ∷ []) }
acted l (reopen k) = record { feeds = l.feeds; notices = struck notice_number k l.notices }

-- the ledger after a call and its answer; a refusal and a telling change nothing
abbrev pub after : {V : Type 0} → Ledger → Call V → Answer V → Ledger
after l call (refused k) = l
after l (plan x p q) (pair r first second cost) = planned l x first second
after l (act x) (pair r first second cost) = l
after l (tell x) (pair r first second cost) = l
after l (plan x p q) done = l
after l (act x) done = acted l x
after l (tell x) done = l
after l call (told t) = l

pub record Entry (V : Type 0) : Type 0 where
  pub call : Call V
  pub answer : Answer V

-- Every call is answered right by the ledger before it. Telling calls may stand anywhere in a run, so what is told of the
-- bandwidth left at its start and after each call balances with what the standing feeds take.
abbrev pub Kept : {V : Type 0} → Measure V → Network → Ledger → List (Entry V) → Type 0
Kept s n l [] = Unit {0}
Kept s n l (e ∷ es) = Right s n l e.call e.answer × Kept s n (after l e.call e.answer) es

-- a run on a new book
abbrev pub Run : {V : Type 0} → Measure V → Network → List (Entry V) → Type 0
Run s n es = Kept s n nothing_yet es
