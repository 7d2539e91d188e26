-- Tests of each kind of line, and what they tell. Assumes nothing.
use Rattle.std.proofs.Common.{◌≡◌, Bool, true, false, not, ◌&&◌, List, [], ◌∷◌, refl}
use Rattle.std.proofs.lemmas.Bool.{and_parts, both_ways, not-true}
use Rattle.network.specs.Network.{Network}
use Rattle.network.specs.Routes.{Leads, Route}
use Rattle.network.proofs.Lists.{every}
use Rattle.scale.specs.Measure.{Measure, shared_cost}
use Rattle.promise.specs.Ledger.{Ledger}
use Rattle.promise.specs.Promise.{safest, widest, book, Call, plan, act, tell, Answer, refused, pair, done, told, Right, after, Entry, Kept}
use Rattle.worked_lines.specs.Lines.{All, Line, IsRight, IsOnly, Lines, Only, Wrong, along, ending, LeadsTo, Step, Steps, Way, Routes, NoRoutes, NoWay, Proposal, Can, Choices, NoChoices, Share, Shares, Weight, Join, Order, Figures, Keeps}
use Rattle.worked_lines.proofs.AnswerTest.{ToldBy, leads?, route?, choice?, right?}
use Rattle.worked_lines.proofs.AnswerTestSound.{ToldRight, right_sound}
use Rattle.worked_lines.proofs.CarryTest.{leads_complete, route_sound, route_complete, choice_sound, choice_complete}
use Rattle.worked_lines.proofs.LedgerTest.{ledger?, ledger_same}
use Rattle.worked_lines.proofs.OneAnswer.{one?, agree}

-- what a test tells of each element
pub all_pass : {A : Type 0} (p : A → Bool) (P : A → Type 0) → ((x : A) → p x ≡ true → P x) → (xs : List A) → every p xs ≡ true → All P xs
all_pass p P f [] h = tt
all_pass p P f (x ∷ xs) h = let q = and_parts (p x) (every p xs) h in (f x q.0, all_pass p P f xs q.1)

-- lines that are right, and the only right ones
module _ {V : Type 0} (d : ToldBy V) (s : Measure V) (n : Network) where
  abbrev right_line? : Line V → Bool
  right_line? x = right? d s n x.ledger x.call x.answer

  abbrev one_line? : Line V → Bool
  one_line? x = one? x.ledger x.call x.answer

  abbrev pub lines? : List (Line V) → Bool
  lines? xs = every (λ x. right_line? x && one_line? x) xs

  abbrev pub runs? : Ledger → List (Entry V) → Ledger → Bool
  runs? l es end = lines? (along l es) && ledger? (ending l es) end

  module _ (g : ToldRight d s n) where
    pub lines_right : (xs : List (Line V)) → lines? xs ≡ true → Lines s n xs
    lines_right xs h =
        all_pass (λ x. right_line? x && one_line? x) (IsRight s n) (λ x e.
        right_sound d s n g x.ledger x.call x.answer (and_parts (right_line? x) (one_line? x) e).0) xs h

    pub lines_only : (xs : List (Line V)) → lines? xs ≡ true → Only s n xs
    lines_only xs h =
        all_pass (λ x. right_line? x && one_line? x) (IsOnly s n) (λ x e.
        let p = and_parts (right_line? x) (one_line? x) e in
        agree s n x.ledger x.call x.answer p.1 (right_sound d s n g x.ledger x.call x.answer p.0)) xs h

    kept_along : (l : Ledger) (es : List (Entry V)) → Lines s n (along l es) → Kept s n l es
    kept_along l [] h = tt
    kept_along l (e ∷ es) h = (h.0, kept_along (after l e.call e.answer) es h.1)

    pub run_kept : (l : Ledger) (es : List (Entry V)) → lines? (along l es) ≡ true → Kept s n l es
    run_kept l es h = kept_along l es (lines_right (along l es) h)

    -- a run that is kept, ends as it should, and has no other answers
    pub run_leads : (l : Ledger) (es : List (Entry V)) (end : Ledger) → runs? l es end ≡ true → LeadsTo s n l es end
    run_leads l es end h =
        let p = and_parts (lines? (along l es)) (ledger? (ending l es) end) h in
        (run_kept l es p.0, lines_only (along l es) p.0, ledger_same (ending l es) end p.1)

  -- a pair that is no set, or that cannot carry the rate, is no right answer, whatever its cost
  abbrev no_pair? : Ledger → Call V → Answer V → Bool
  no_pair? l (plan x p q) (refused k) = false
  no_pair? l (plan (safest a b r m) p q) (pair r' f g c) = not (choice? n l a b m r (f ∷ g ∷ []))
  no_pair? l (plan (widest a b m limit) p q) (pair r' f g c) = not (choice? n l a b m r' (f ∷ g ∷ []))
  no_pair? l (plan (book k a b r m limit) p q) (pair r' f g c) = not (choice? n l a b m r (f ∷ g ∷ []))
  no_pair? l (plan x p q) done = false
  no_pair? l (plan x p q) (told t) = false
  no_pair? l (act x) y = false
  no_pair? l (tell x) y = false

  no_pair_wrong : (l : Ledger) (call : Call V) (y : Answer V) → no_pair? l call y ≡ true → Right s n l call y → ⊥
  no_pair_wrong l (plan x p q) (refused k) h i = both_ways false refl h
  no_pair_wrong l (plan (safest a b r m) p q) (pair r' f g c) h i =
      both_ways (choice? n l a b m r (f ∷ g ∷ [])) (not-true (choice? n l a b m r (f ∷ g ∷ [])) h) (choice_complete n l a b m r (f ∷ g ∷ []) i.1.1.choice)
  no_pair_wrong l (plan (widest a b m limit) p q) (pair r' f g c) h i =
      both_ways (choice? n l a b m r' (f ∷ g ∷ [])) (not-true (choice? n l a b m r' (f ∷ g ∷ [])) h) (choice_complete n l a b m r' (f ∷ g ∷ []) i.1.safest_pair.choice)
  no_pair_wrong l (plan (book k a b r m limit) p q) (pair r' f g c) h i =
      both_ways (choice? n l a b m r (f ∷ g ∷ [])) (not-true (choice? n l a b m r (f ∷ g ∷ [])) h) (choice_complete n l a b m r (f ∷ g ∷ []) i.1.1.choice)
  no_pair_wrong l (plan x p q) done h i = i
  no_pair_wrong l (plan x p q) (told t) h i = i
  no_pair_wrong l (act x) y h i = both_ways false refl h
  no_pair_wrong l (tell x) y h i = both_ways false refl h

  abbrev pub wrong? : List (Line V) → Bool
  wrong? xs = every (λ x. no_pair? x.ledger x.call x.answer) xs

  pub wrong_sound : (xs : List (Line V)) → wrong? xs ≡ true → Wrong s n xs
  wrong_sound xs h = all_pass (λ x. no_pair? x.ledger x.call x.answer) (λ x. IsRight s n x → ⊥) (λ x e. no_pair_wrong x.ledger x.call x.answer e) xs h

-- ways and sets
module _ (n : Network) where
  abbrev way? : Way → Bool
  way? x = route? n x.from x.to x.circuits

  abbrev leading? : Way → Bool
  leading? x = leads? n x.from x.circuits x.to

  abbrev can? : Proposal → Bool
  can? x = choice? n x.ledger x.from x.to x.mode x.rate x.routes

  abbrev pub routes? : List Way → Bool
  routes? xs = every way? xs

  abbrev pub no_routes? : List Way → Bool
  no_routes? xs = every (λ x. not (way? x)) xs

  abbrev pub no_way? : List Way → Bool
  no_way? xs = every (λ x. not (leading? x)) xs

  abbrev pub choices? : List Proposal → Bool
  choices? xs = every can? xs

  abbrev pub no_choices? : List Proposal → Bool
  no_choices? xs = every (λ x. not (can? x)) xs

  pub routes_sound : (xs : List Way) → routes? xs ≡ true → Routes n xs
  routes_sound xs h = all_pass way? (λ x. Route n x.from x.to x.circuits) (λ x e. route_sound n x.from x.to x.circuits e) xs h

  pub no_routes_sound : (xs : List Way) → no_routes? xs ≡ true → NoRoutes n xs
  no_routes_sound xs h = all_pass (λ x. not (way? x)) (λ x. Route n x.from x.to x.circuits → ⊥) (λ x e r. both_ways (way? x) (not-true (way? x) e) (route_complete n x.from x.to x.circuits r)) xs h

  pub no_way_sound : (xs : List Way) → no_way? xs ≡ true → NoWay n xs
  no_way_sound xs h = all_pass (λ x. not (leading? x)) (λ x. Leads n x.from x.circuits x.to → ⊥) (λ x e r. both_ways (leading? x) (not-true (leading? x) e) (leads_complete n x.from x.circuits x.to r)) xs h

  pub choices_sound : (xs : List Proposal) → choices? xs ≡ true → Choices n xs
  choices_sound xs h = all_pass can? (Can n) (λ x e. choice_sound n x.ledger x.from x.to x.mode x.rate x.routes e) xs h

  pub no_choices_sound : (xs : List Proposal) → no_choices? xs ≡ true → NoChoices n xs
  no_choices_sound xs h = all_pass (λ x. not (can? x)) (λ x. Can n x → ⊥) (λ x e r. both_ways (can? x) (not-true (can? x) e) (choice_complete n x.ledger x.from x.to x.mode x.rate x.routes r)) xs h

-- what calls make of a ledger
abbrev step? : Step → Bool
step? x = ledger? (after x.before x.call x.answer) x.later

abbrev pub steps? : List Step → Bool
steps? xs = every step? xs

pub steps_sound : (xs : List Step) → steps? xs ≡ true → Steps xs
steps_sound xs h = all_pass step? (λ x. after x.before x.call x.answer ≡ x.later) (λ x e. ledger_same (after x.before x.call x.answer) x.later e) xs h

-- figures of a scale; `same?` tells equal values, `value?` which are values
abbrev both? : Bool → Bool → Bool
both? true true = true
both? true false = false
both? false true = false
both? false false = true

both_same : (x y : Bool) → both? x y ≡ true → x ≡ y
both_same true true h = refl
both_same true false h = absurd (both_ways false refl h)
both_same false true h = absurd (both_ways false refl h)
both_same false false h = refl

module _ {V : Type 0} (d : ToldBy V) (s : Measure V) where
  abbrev weight? : Weight V → Bool
  weight? x = d.same? (s.weight x.cost) x.weight

  abbrev join? : Join V → Bool
  join? x = d.same? (s.join x.first x.second) x.joined

  abbrev at_most? : Order V → Bool
  at_most? x = both? (s.at_most x.first x.second) x.at_most

  abbrev sums? : Figures V → Bool
  sums? f = d.same? s.zero f.zero && (every weight? f.weights && every join? f.joins)

  abbrev ranges? : Figures V → Bool
  ranges? f = every at_most? f.orders && (every d.value? f.values && every (λ x. not (d.value? x)) f.no_values)

  abbrev pub figures? : Figures V → Bool
  figures? f = sums? f && ranges? f

  pub figures_sound : ((x : V) → d.value? x ≡ true → s.value x) → ((x : V) → s.value x → d.value? x ≡ true) → ((x y : V) → d.same? x y ≡ true → x ≡ y) → (f : Figures V) → figures? f ≡ true → Keeps s f
  figures_sound value no_value same f h =
      let p = and_parts (sums? f) (ranges? f) h in
      let a = and_parts (d.same? s.zero f.zero) (every weight? f.weights && every join? f.joins) p.0 in
      let b = and_parts (every weight? f.weights) (every join? f.joins) a.1 in
      let c = and_parts (every at_most? f.orders) (every d.value? f.values && every (λ x. not (d.value? x)) f.no_values) p.1 in
      let e = and_parts (every d.value? f.values) (every (λ x. not (d.value? x)) f.no_values) c.1 in
      record {
        zero = same s.zero f.zero a.0;
        weights = all_pass weight? (λ x. s.weight x.cost ≡ x.weight) (λ x h. same (s.weight x.cost) x.weight h) f.weights b.0;
        joins = all_pass join? (λ x. s.join x.first x.second ≡ x.joined) (λ x h. same (s.join x.first x.second) x.joined h) f.joins b.1;
        orders = all_pass at_most? (λ x. s.at_most x.first x.second ≡ x.at_most) (λ x h. both_same (s.at_most x.first x.second) x.at_most h) f.orders c.0;
        values = all_pass d.value? s.value value f.values e.0;
        no_values = all_pass (λ x. not (d.value? x)) (λ x. s.value x → ⊥) (λ x h v. both_ways (d.value? x) (not-true (d.value? x) h) (no_value x v)) f.no_values e.1;
      }

  abbrev share? : Network → Share V → Bool
  share? n x = d.same? (shared_cost s n x.routes) x.cost

  abbrev pub shares? : Network → List (Share V) → Bool
  shares? n xs = every (share? n) xs

  pub shares_sound : ((x y : V) → d.same? x y ≡ true → x ≡ y) → (n : Network) (xs : List (Share V)) → shares? n xs ≡ true → Shares s n xs
  shares_sound same n xs h = all_pass (share? n) (λ x. shared_cost s n x.routes ≡ x.cost) (λ x e. same (shared_cost s n x.routes) x.cost e) xs h
