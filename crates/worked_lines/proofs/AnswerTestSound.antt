-- What the test tells is so: an answer that it passes is right. Assumes nothing.
use Rattle.std.proofs.Common.{◌≡◌, ℕ, ◌+◌, ◌<◌, ◌≤◌, Bool, true, false, not, ◌&&◌, ◌||◌, eqb, ltb, leb, ◌⊎◌, List, [], ◌∷◌, length, Decides, sym, refl, ◌∙◌, subst, inl, inr, arith}
use Rattle.std.proofs.lemmas.Bool.{and_parts, or_cases, both_ways, not-true, not_from_false, cases_Bool, eqb-true, leb-true, le-leb}
use Rattle.std.proofs.lemmas.Bool.Decides.{Decides-eqb, Decides-ltb, Decides-or, Decides-not}
use Rattle.network.specs.Checks.{Check, check, First, Passed}
use Rattle.network.specs.Network.{Network, circuit, Proper}
use Rattle.network.specs.Routes.{Route, times}
use Rattle.scale.specs.Measure.{Measure, AtMost, Lawful, shared_cost}
use Rattle.promise.specs.declared.Mode.{Mode}
use Rattle.promise.specs.Ledger.{Feed, Ledger, taken, Choice}
use Rattle.promise.specs.Promise as promise
use Rattle.promise.specs.Promise.{Plan, safest, widest, book, Act, release, close, reopen, Tell, Call, plan, act, tell, Answer, refused, pair, done, told, feed_number, notice_number, Stands, BadPlaces, BadRate, NoCircuit, NoPair, NoneWithin, plan_checks, act_checks, tell_checks, checks, Safest, Widest, Planned, Used, Told, Right}
use Rattle.worked_lines.proofs.AnswerTest.{ToldBy, Tested, tested, passed?, first?, stands?, used?, open?, route?, carries?, pair?, usable, none_within?, pair_test, limit_test, plan_tests, act_tests, tell_tests, tests, safest?, planned?, told?, right?}
use Rattle.network.proofs.Lists.{every, every_each}
use Rattle.network.proofs.Counts.{shares_more}
use Rattle.scale.proofs.Costs.{cost_value, cheaper}
use Rattle.promise.proofs.Plans.{below_from_none}
use Rattle.worked_lines.proofs.CarryTest.{route_sound, decides_open, carries_sound, pair_sound, pair_complete, usable_has}

-- a check with its tests
pub record Fair (p : Check) (t : Tested) : Type 0 where
  pub number : p.number ≡ t.number
  pub sure : t.sure ≡ true → p.fails
  pub clear : t.clear ≡ true → p.fails → ⊥

abbrev pub Fairs : List Check → List Tested → Type 0
Fairs [] [] = Unit {0}
Fairs [] (t ∷ ts) = ⊥
Fairs (p ∷ ps) [] = ⊥
Fairs (p ∷ ps) (t ∷ ts) = Fair p t × Fairs ps ts

passed_sound : (ps : List Check) (ts : List Tested) → Fairs ps ts → passed? ts ≡ true → Passed ps
passed_sound [] [] f h = tt
passed_sound [] (t ∷ ts) f h = absurd f
passed_sound (p ∷ ps) [] f h = absurd f
passed_sound (p ∷ ps) (t ∷ ts) f h = let q = and_parts t.clear (passed? ts) h in (f.0.clear q.0, passed_sound ps ts f.1 q.1)

first_sound : (k : ℕ) (ps : List Check) (ts : List Tested) → Fairs ps ts → first? k ts ≡ true → First k ps
first_sound k [] [] f h = both_ways false refl h
first_sound k [] (t ∷ ts) f h = f
first_sound k (p ∷ ps) [] f h = absurd f
first_sound k (p ∷ ps) (t ∷ ts) f h = elim (or_cases (eqb k t.number && t.sure) (t.clear && first? k ts) h) [
  | inl e ↦ let q = and_parts (eqb k t.number) t.sure e in inl (eqb-true k t.number q.0 ∙ sym f.0.number, f.0.sure q.1)
  | inr e ↦ let q = and_parts t.clear (first? k ts) e in inr (f.0.clear q.0, first_sound k ps ts f.1 q.1)
]

fair : (k : ℕ) (P : Type 0) (t : Bool) → Decides t P → Fair (check k P) (tested k t)
fair k P t d = record { number = refl; sure = d.0; clear = λ h p. both_ways t (not-true t h) (d.1 p) }

decides_leb : (a b : ℕ) → Decides (leb a b) (a ≤ b)
decides_leb a b = (leb-true a b, le-leb a b)

decides_stands : {A : Type 0} (number : A → ℕ) (k : ℕ) (xs : List A) → Decides (stands? number k xs) (Stands number k xs)
decides_stands number k [] = (λ h. both_ways false refl h, λ h. absurd h)
decides_stands number k (x ∷ xs) = Decides-or (eqb (number x) k) (stands? number k xs) (Decides-eqb (number x) k) (decides_stands number k xs)

-- what the test rests on
pub record ToldRight {V : Type 0} (d : ToldBy V) (s : Measure V) (n : Network) : Type 0 where
  pub lawful : Lawful s
  pub proper : Proper n
  pub value : (x : V) → d.value? x ≡ true → s.value x
  pub same : (x y : V) → d.same? x y ≡ true → x ≡ y

module _ {V : Type 0} (d : ToldBy V) (s : Measure V) (n : Network) (g : ToldRight d s n) (l : Ledger) where
  module _ (a b : ℕ) (m : Mode) where
    -- what all usable routes share costs no more than any set
    bound : (r : ℕ) (rs : List (List ℕ)) → Choice n l a b m r rs → AtMost s (shared_cost s n (usable n l a b r)) (shared_cost s n rs)
    bound r rs choice = cheaper s g.lawful n g.proper (usable n l a b r) rs (shares_more (usable n l a b r) rs (usable_has n l a b g.proper m r rs choice))

    no_pair : (r : ℕ) → pair? n l a b m r (λ rs. true) ≡ false → NoPair s n l a b m r
    no_pair r h rs choice = both_ways (pair? n l a b m r (λ rs. true)) h (pair_complete n l a b g.proper m r rs choice)

    none_within : (r : ℕ) (limit : V) → none_within? d s n l a b m r limit ≡ true → NoneWithin s n l a b m r limit
    none_within r limit h rs choice within =
        let u = shared_cost s n (usable n l a b r) in
        elim (or_cases (not (pair? n l a b m r (λ rs. true))) (d.value? limit && not (s.at_most u limit)) h) [
          | inl e ↦ no_pair r (not-true (pair? n l a b m r (λ rs. true)) e) rs choice
          | inr e ↦
              let q = and_parts (d.value? limit) (not (s.at_most u limit)) e in
              both_ways (s.at_most u limit) (not-true (s.at_most u limit) q.1)
              (g.lawful.transitive u (shared_cost s n rs) limit (cost_value s g.lawful n g.proper (usable n l a b r)) (cost_value s g.lawful n g.proper rs) (g.value limit q.0) (bound r rs choice) within)
        ]

    pair_fair : (r : ℕ) → Fair (check 16 (NoPair s n l a b m r)) (pair_test d s n l a b m r)
    pair_fair r = record {
      number = refl;
      sure = λ h. no_pair r (not-true (pair? n l a b m r (λ rs. true)) h);
      clear = λ h none.
          elim (cases_Bool (pair? n l a b m r (λ rs. true))) [
            | inl e ↦ let x = pair_sound n l a b m r (λ rs. true) e in none x.0 x.1
            | inr e ↦ both_ways (not (pair? n l a b m r (λ rs. true))) (not-true (not (pair? n l a b m r (λ rs. true))) h) (not_from_false (pair? n l a b m r (λ rs. true)) e)
          ];
    }

    limit_fair : (r : ℕ) (limit : V) → Fair (check 17 (NoneWithin s n l a b m r limit)) (limit_test d s n l a b m r limit)
    limit_fair r limit = record {
      number = refl;
      sure = λ h. none_within r limit h;
      clear = λ h none. let x = pair_sound n l a b m r (λ rs. s.at_most (shared_cost s n rs) limit) h in none x.0 x.1 x.2;
    }

    safest_sound : (r : ℕ) (first second : List ℕ) (cost : V) → safest? d s n l a b m r first second cost ≡ true → Safest s n l a b m r first second cost
    safest_sound r first second cost h =
        let rs = first ∷ second ∷ [] in
        let us = usable n l a b r in
        let p = and_parts (every (route? n a b) rs) (carries? n l m r rs && (d.same? cost (shared_cost s n rs) && s.at_most cost (shared_cost s n us))) h in
        let q = and_parts (carries? n l m r rs) (d.same? cost (shared_cost s n rs) && s.at_most cost (shared_cost s n us)) p.1 in
        let t = and_parts (d.same? cost (shared_cost s n rs)) (s.at_most cost (shared_cost s n us)) q.1 in
        let e = g.same cost (shared_cost s n rs) t.0 in
        record {
          choice = ((omega arith, every_each (route? n a b) (Route n a b) (λ x. route_sound n a b x) rs p.0), carries_sound n l m r rs q.0);
          shares = e;
          least = λ ts choice.
              g.lawful.transitive cost (shared_cost s n us) (shared_cost s n ts)
              (subst (λ z. s.value z) (sym e) (cost_value s g.lawful n g.proper rs)) (cost_value s g.lawful n g.proper us) (cost_value s g.lawful n g.proper ts) t.1 (bound r ts choice);
        }

    largest : (r : ℕ) (limit : V) → (eqb r 1000000 || none_within? d s n l a b m (r + 1) limit) ≡ true → (q : ℕ) → q ≤ 1000000 → (rs : List (List ℕ)) → Choice n l a b m q rs → AtMost s (shared_cost s n rs) limit → q ≤ r
    largest r limit h q small rs choice within = elim (or_cases (eqb r 1000000) (none_within? d s n l a b m (r + 1) limit) h) [
      | inl e ↦ omega (arith, eqb-true r 1000000 e)
      | inr e ↦ omega (arith, below_from_none s g.lawful n l a b m (r + 1) q limit (inr (none_within (r + 1) limit e)) rs choice within)
    ]

    widest_sound : (limit : V) (r : ℕ) (first second : List ℕ) (cost : V) → planned? d s n l (widest a b m limit) r first second cost ≡ true → Widest s n l a b m limit r first second cost
    widest_sound limit r first second cost h =
        let last = eqb r 1000000 || none_within? d s n l a b m (r + 1) limit in
        let p = and_parts (leb 1 r && leb r 1000000) (safest? d s n l a b m r first second cost && (s.at_most cost limit && last)) h in
        let o = and_parts (leb 1 r) (leb r 1000000) p.0 in
        let q = and_parts (safest? d s n l a b m r first second cost) (s.at_most cost limit && last) p.1 in
        let t = and_parts (s.at_most cost limit) last q.1 in
        record {
          some = leb-true 1 r o.0;
          most = leb-true r 1000000 o.1;
          safest_pair = safest_sound r first second cost q.0;
          within = t.0;
          largest = largest r limit t.1;
        }

  planned_sound : (x : Plan V) (r : ℕ) (first second : List ℕ) (cost : V) → planned? d s n l x r first second cost ≡ true → Planned s n l x r first second cost
  planned_sound (safest a b r m) r' first second cost h =
      let p = and_parts (eqb r' r) (safest? d s n l a b m r first second cost) h in
      (eqb-true r' r p.0, safest_sound a b m r first second cost p.1)
  planned_sound (widest a b m limit) r' first second cost h = widest_sound a b m limit r' first second cost h
  planned_sound (book k a b r m limit) r' first second cost h =
      let p = and_parts (eqb r' r) (safest? d s n l a b m r first second cost && s.at_most cost limit) h in
      let q = and_parts (safest? d s n l a b m r first second cost) (s.at_most cost limit) p.1 in
      (eqb-true r' r p.0, safest_sound a b m r first second cost q.0, q.1)

  decides_places : (a b : ℕ) → Decides (leb n.places a || (leb n.places b || eqb a b)) (BadPlaces n a b)
  decides_places a b = Decides-or (leb n.places a) (leb n.places b || eqb a b) (decides_leb n.places a) (Decides-or (leb n.places b) (eqb a b) (decides_leb n.places b) (Decides-eqb a b))

  decides_rate : (r : ℕ) → Decides (eqb r 0 || ltb 1000000 r) (BadRate r)
  decides_rate r = Decides-or (eqb r 0) (ltb 1000000 r) (Decides-eqb r 0) (Decides-ltb 1000000 r)

  places_fair : (a b : ℕ) → Fair (check 13 (BadPlaces n a b)) (tested 13 (leb n.places a || (leb n.places b || eqb a b)))
  places_fair a b = fair 13 (BadPlaces n a b) (leb n.places a || (leb n.places b || eqb a b)) (decides_places a b)

  rate_fair : (r : ℕ) → Fair (check 14 (BadRate r)) (tested 14 (eqb r 0 || ltb 1000000 r))
  rate_fair r = fair 14 (BadRate r) (eqb r 0 || ltb 1000000 r) (decides_rate r)

  number_fair : (k : ℕ) → Fair (check 9 (k ≡ 0)) (tested 9 (eqb k 0))
  number_fair k = fair 9 (k ≡ 0) (eqb k 0) (Decides-eqb k 0)

  circuit_fair : (c : ℕ) → Fair (check 11 (NoCircuit n c)) (tested 11 (leb (length n.circuits) c))
  circuit_fair c = fair 11 (NoCircuit n c) (leb (length n.circuits) c) (decides_leb (length n.circuits) c)

  stands_fair : {A : Type 0} (number : A → ℕ) (k : ℕ) (xs : List A) → Fair (check 10 (Stands number k xs)) (tested 10 (stands? number k xs))
  stands_fair number k xs = fair 10 (Stands number k xs) (stands? number k xs) (decides_stands number k xs)

  missing_fair : {A : Type 0} (number : A → ℕ) (k : ℕ) (xs : List A) → Fair (check 11 (Stands number k xs → ⊥)) (tested 11 (not (stands? number k xs)))
  missing_fair number k xs = fair 11 (Stands number k xs → ⊥) (not (stands? number k xs)) (Decides-not (stands? number k xs) (decides_stands number k xs))

  full_fair : (k : ℕ) → Fair (check 12 (32 ≤ k)) (tested 12 (leb 32 k))
  full_fair k = fair 12 (32 ≤ k) (leb 32 k) (decides_leb 32 k)

  plan_fair : (room : Check) (t : Tested) → Fair room t → (x : Plan V) → Fairs (plan_checks s n l room x) (plan_tests d s n l t x)
  plan_fair room t f (safest a b r m) = (places_fair a b, (rate_fair r, (f, (pair_fair a b m r, tt))))
  plan_fair room t f (widest a b m limit) = (places_fair a b, (f, (pair_fair a b m 1, (limit_fair a b m 1 limit, tt))))
  plan_fair room t f (book k a b r m limit) = (number_fair k, (stands_fair feed_number k l.feeds, (full_fair (length l.feeds), (places_fair a b, (rate_fair r, (f, (pair_fair a b m r, (limit_fair a b m r limit, tt))))))))

  act_fair : (x : Act) → Fairs (act_checks s n l x) (act_tests d s n l x)
  act_fair (release k) = (number_fair k, (missing_fair feed_number k l.feeds, tt))
  act_fair (close k c) = (number_fair k, (stands_fair notice_number k l.notices, (circuit_fair c, (full_fair (length l.notices), tt))))
  act_fair (reopen k) = (number_fair k, (missing_fair notice_number k l.notices, tt))

  tell_fair : (x : Tell) → Fairs (tell_checks s n l x) (tell_tests d s n l x)
  tell_fair (promise.Tell.left c) = (circuit_fair c, tt)
  tell_fair (promise.Tell.opens c) = (circuit_fair c, tt)
  tell_fair (promise.Tell.uses k c) = (
    number_fair k,
    (
      fair 11 ((Stands feed_number k l.feeds → ⊥) ⊎ NoCircuit n c) (not (stands? feed_number k l.feeds) || leb (length n.circuits) c)
          (Decides-or (not (stands? feed_number k l.feeds)) (leb (length n.circuits) c)
          (Decides-not (stands? feed_number k l.feeds) (decides_stands feed_number k l.feeds))
          (decides_leb (length n.circuits) c)),
      tt,
    ),
  )

  room_fair : (p q : ℕ) → Fair (check 15 ((p < 127) ⊎ (q < 127))) (tested 15 (ltb p 127 || ltb q 127))
  room_fair p q = fair 15 ((p < 127) ⊎ (q < 127)) (ltb p 127 || ltb q 127) (Decides-or (ltb p 127) (ltb q 127) (Decides-ltb p 127) (Decides-ltb q 127))

  tests_fair : (call : Call V) → Fairs (checks s n l call) (tests d s n l call)
  tests_fair (plan x p q) = plan_fair (check 15 ((p < 127) ⊎ (q < 127))) (tested 15 (ltb p 127 || ltb q 127)) (room_fair p q) x
  tests_fair (act x) = act_fair x
  tests_fair (tell x) = tell_fair x

  used_sound : (k c t : ℕ) (fs : List Feed) → used? k c t fs ≡ true → Used s n l k c t fs
  used_sound k c t [] h = both_ways false refl h
  used_sound k c t (f ∷ fs) h = elim (or_cases (eqb f.number k && eqb t (times c (f.first ∷ f.second ∷ []))) (used? k c t fs) h) [
    | inl e ↦ let q = and_parts (eqb f.number k) (eqb t (times c (f.first ∷ f.second ∷ []))) e in inl (eqb-true f.number k q.0, eqb-true t (times c (f.first ∷ f.second ∷ [])) q.1)
    | inr e ↦ inr (used_sound k c t fs e)
  ]

  told_sound : (x : Tell) (t : ℕ) → told? d s n l x t ≡ true → Told s n l x t
  told_sound (promise.Tell.left c) t h = eqb-true (t + taken l.feeds c) (circuit n c).bandwidth h
  told_sound (promise.Tell.opens c) t h = elim (or_cases (eqb t 1 && open? l c) (eqb t 0 && not (open? l c)) h) [
    | inl e ↦ let q = and_parts (eqb t 1) (open? l c) e in inl (eqb-true t 1 q.0, (decides_open l c).0 q.1)
    | inr e ↦ let q = and_parts (eqb t 0) (not (open? l c)) e in inr (eqb-true t 0 q.0, λ o. both_ways (open? l c) (not-true (open? l c) q.1) ((decides_open l c).1 o))
  ]
  told_sound (promise.Tell.uses k c) t h = used_sound k c t l.feeds h

  -- an answer that the test passes is right
  pub right_sound : (call : Call V) (answer : Answer V) → right? d s n l call answer ≡ true → Right s n l call answer
  right_sound (plan x p q) (refused k) h = first_sound k (checks s n l (plan x p q)) (tests d s n l (plan x p q)) (tests_fair (plan x p q)) h
  right_sound (act x) (refused k) h = first_sound k (act_checks s n l x) (act_tests d s n l x) (act_fair x) h
  right_sound (tell x) (refused k) h = first_sound k (tell_checks s n l x) (tell_tests d s n l x) (tell_fair x) h
  right_sound (plan x p q) (pair r first second cost) h =
      let e = and_parts (passed? (tests d s n l (plan x p q))) (planned? d s n l x r first second cost) h in
      (passed_sound (checks s n l (plan x p q)) (tests d s n l (plan x p q)) (tests_fair (plan x p q)) e.0, planned_sound x r first second cost e.1)
  right_sound (plan x p q) done h = both_ways false refl h
  right_sound (plan x p q) (told t) h = both_ways false refl h
  right_sound (act x) (pair r first second cost) h = both_ways false refl h
  right_sound (act x) done h = passed_sound (act_checks s n l x) (act_tests d s n l x) (act_fair x) h
  right_sound (act x) (told t) h = both_ways false refl h
  right_sound (tell x) (pair r first second cost) h = both_ways false refl h
  right_sound (tell x) done h = both_ways false refl h
  right_sound (tell x) (told t) h =
      let e = and_parts (passed? (tell_tests d s n l x)) (told? d s n l x t) h in
      (passed_sound (tell_checks s n l x) (tell_tests d s n l x) (tell_fair x) e.0, told_sound x t e.1)
