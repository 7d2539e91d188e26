-- A test of whether an answer is right, that computes on a network, a ledger, a call and an answer. Assumes nothing.
use Rattle.std.proofs.Common.{ℕ, ◌+◌, ◌*◌, Bool, true, false, not, ◌&&◌, ◌||◌, eqb, ltb, leb, List, [], ◌∷◌, length}
use Rattle.network.specs.Network.{Network, circuit}
use Rattle.network.specs.Routes.{uses, stops, times}
use Rattle.scale.specs.Measure.{Measure, shared_cost}
use Rattle.promise.specs.declared.Mode.{Mode}
use Rattle.promise.specs.declared.Mode.TheVariants.{OnePlusOne, OneToOne}
use Rattle.promise.specs.Ledger.{Feed, Notice, Ledger, left, taken}
use Rattle.promise.specs.Promise as promise
use Rattle.promise.specs.Promise.{Plan, safest, widest, book, Act, release, close, reopen, Tell, opens, Call, plan, act, tell, Answer, refused, pair, done, told, feed_number, notice_number}
use Rattle.network.proofs.Lists.{every, some, kept}
use Rattle.worked_lines.proofs.AllRoutes.{routes}

abbrev pub distinct? : List ℕ → Bool
distinct? [] = true
distinct? (x ∷ xs) = not (uses x xs) && distinct? xs

abbrev pub leads? : Network → ℕ → List ℕ → ℕ → Bool
leads? n a [] b = eqb a b
leads? n a (c ∷ cs) b = ltb c (length n.circuits) && (eqb (circuit n c).from a && leads? n (circuit n c).to cs b)

abbrev pub route? : Network → ℕ → ℕ → List ℕ → Bool
route? n a b cs = ltb 0 (length cs) && (leads? n a cs b && distinct? (a ∷ stops n cs))

abbrev pub rule? : Mode → ℕ → ℕ → ℕ → Bool
rule? OnePlusOne rate routes left = leb (routes * rate) left
rule? OneToOne rate routes left = true

abbrev pub open? : Ledger → ℕ → Bool
open? l c = every (λ (x : Notice). not (eqb x.circuit c)) l.notices

abbrev pub free? : Network → Ledger → Mode → ℕ → List (List ℕ) → ℕ → Bool
free? n l m rate rs c = (open? l c && leb rate (left n l c)) && rule? m rate (times c rs) (left n l c)

abbrev pub carries? : Network → Ledger → Mode → ℕ → List (List ℕ) → Bool
carries? n l m rate rs = every (every (free? n l m rate rs)) rs

-- the routes are a set that can carry the rate
abbrev pub choice? : Network → Ledger → ℕ → ℕ → Mode → ℕ → List (List ℕ) → Bool
choice? n l a b m rate rs = leb 2 (length rs) && (every (route? n a b) rs && carries? n l m rate rs)

module _ (n : Network) (l : Ledger) (a b : ℕ) where
  -- some two routes can carry the rate, and pass the test
  abbrev pub pair? : Mode → ℕ → (List (List ℕ) → Bool) → Bool
  pair? m rate p = some (λ x. some (λ y. carries? n l m rate (x ∷ y ∷ []) && p (x ∷ y ∷ [])) (routes n a b)) (routes n a b)

  -- the routes of which each circuit is usable
  abbrev pub usable : ℕ → List (List ℕ)
  usable rate = kept (λ x. carries? n l OneToOne rate (x ∷ [])) (routes n a b)

-- how a value is told: that it is one, and that two are the same
pub record ToldBy (V : Type 0) : Type 0 where
  pub value? : V → Bool
  pub same? : V → V → Bool

-- the tests of a check: `sure` tells that it fails, `clear` that it does not
pub record Tested : Type 0 where
  pub number : ℕ
  pub sure : Bool
  pub clear : Bool

abbrev pub tested : ℕ → Bool → Tested
tested k t = record { number = k; sure = t; clear = not t }

abbrev pub passed? : List Tested → Bool
passed? [] = true
passed? (t ∷ ts) = t.clear && passed? ts

abbrev pub first? : ℕ → List Tested → Bool
first? k [] = false
first? k (t ∷ ts) = (eqb k t.number && t.sure) || (t.clear && first? k ts)

abbrev pub stands? : {A : Type 0} → (A → ℕ) → ℕ → List A → Bool
stands? number k [] = false
stands? number k (x ∷ xs) = eqb (number x) k || stands? number k xs

abbrev pub used? : ℕ → ℕ → ℕ → List Feed → Bool
used? k c t [] = false
used? k c t (f ∷ fs) = (eqb f.number k && eqb t (times c (f.first ∷ f.second ∷ []))) || used? k c t fs

module _ {V : Type 0} (d : ToldBy V) (s : Measure V) (n : Network) (l : Ledger) where
  -- no set that can carry the rate is within the limit: none carries it, or what all usable routes share costs more
  abbrev pub none_within? : ℕ → ℕ → Mode → ℕ → V → Bool
  none_within? a b m r limit = not (pair? n l a b m r (λ rs. true)) || (d.value? limit && not (s.at_most (shared_cost s n (usable n l a b r)) limit))

  abbrev pub pair_test : ℕ → ℕ → Mode → ℕ → Tested
  pair_test a b m r = tested 16 (not (pair? n l a b m r (λ rs. true)))

  abbrev pub limit_test : ℕ → ℕ → Mode → ℕ → V → Tested
  limit_test a b m r limit = record { number = 17; sure = none_within? a b m r limit; clear = pair? n l a b m r (λ rs. s.at_most (shared_cost s n rs) limit) }

  abbrev pub places_test : ℕ → ℕ → Tested
  places_test a b = tested 13 (leb n.places a || (leb n.places b || eqb a b))

  abbrev pub rate_test : ℕ → Tested
  rate_test r = tested 14 (eqb r 0 || ltb 1000000 r)

  abbrev pub plan_tests : Tested → Plan V → List Tested
  plan_tests room (safest a b r m) = places_test a b ∷ rate_test r ∷ room ∷ pair_test a b m r ∷ []
  plan_tests room (widest a b m limit) = places_test a b ∷ room ∷ pair_test a b m 1 ∷ limit_test a b m 1 limit ∷ []
  plan_tests room (book k a b r m limit) = tested 9 (eqb k 0) ∷ tested 10 (stands? feed_number k l.feeds) ∷ tested 12 (leb 32 (length l.feeds)) ∷ places_test a b ∷ rate_test r ∷ room ∷ pair_test a b m r ∷ limit_test a b m r limit ∷ []

  abbrev pub act_tests : Act → List Tested
  act_tests (release k) = tested 9 (eqb k 0) ∷ tested 11 (not (stands? feed_number k l.feeds)) ∷ []
  act_tests (close k c) = tested 9 (eqb k 0) ∷ tested 10 (stands? notice_number k l.notices) ∷ tested 11 (leb (length n.circuits) c) ∷ tested 12 (leb 32 (length l.notices)) ∷ []
  act_tests (reopen k) = tested 9 (eqb k 0) ∷ tested 11 (not (stands? notice_number k l.notices)) ∷ []

  abbrev pub tell_tests : Tell → List Tested
  tell_tests (promise.Tell.left c) = tested 11 (leb (length n.circuits) c) ∷ []
  tell_tests (promise.Tell.opens c) = tested 11 (leb (length n.circuits) c) ∷ []
  tell_tests (promise.Tell.uses k c) = tested 9 (eqb k 0) ∷ tested 11 (not (stands? feed_number k l.feeds) || leb (length n.circuits) c) ∷ []

  abbrev pub tests : Call V → List Tested
  tests (plan x p q) = plan_tests (tested 15 (ltb p 127 || ltb q 127)) x
  tests (act x) = act_tests x
  tests (tell x) = tell_tests x

  -- the pair is right at the rate: its cost is what it shares, and no more than what all usable routes share
  abbrev pub safest? : ℕ → ℕ → Mode → ℕ → List ℕ → List ℕ → V → Bool
  safest? a b m r first second cost = every (route? n a b) (first ∷ second ∷ []) && (carries? n l m r (first ∷ second ∷ []) && (d.same? cost (shared_cost s n (first ∷ second ∷ [])) && s.at_most cost (shared_cost s n (usable n l a b r))))

  abbrev pub planned? : Plan V → ℕ → List ℕ → List ℕ → V → Bool
  planned? (safest a b r m) r' first second cost = eqb r' r && safest? a b m r first second cost
  planned? (widest a b m limit) r' first second cost = (leb 1 r' && leb r' 1000000) && (safest? a b m r' first second cost && (s.at_most cost limit && (eqb r' 1000000 || none_within? a b m (r' + 1) limit)))
  planned? (book k a b r m limit) r' first second cost = eqb r' r && (safest? a b m r first second cost && s.at_most cost limit)

  abbrev pub told? : Tell → ℕ → Bool
  told? (promise.Tell.left c) t = eqb (t + taken l.feeds c) (circuit n c).bandwidth
  told? (promise.Tell.opens c) t = (eqb t 1 && open? l c) || (eqb t 0 && not (open? l c))
  told? (promise.Tell.uses k c) t = used? k c t l.feeds

  abbrev pub right? : Call V → Answer V → Bool
  right? call (refused k) = first? k (tests call)
  right? (plan x p q) (pair r first second cost) = passed? (tests (plan x p q)) && planned? x r first second cost
  right? (plan x p q) done = false
  right? (plan x p q) (told t) = false
  right? (act x) (pair r first second cost) = false
  right? (act x) done = passed? (act_tests x)
  right? (act x) (told t) = false
  right? (tell x) (pair r first second cost) = false
  right? (tell x) done = false
  right? (tell x) (told t) = passed? (tell_tests x) && told? x t
