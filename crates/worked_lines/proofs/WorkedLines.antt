-- The worked lines and the further ones, all by one computation. Assumes nothing.
use Rattle.std.proofs.Common.{◌≡◌, ℕ, zero, suc, ◌≤◌, Bool, true, ◌&&◌, eqb, leb, List, [], ◌∷◌, refl, arith}
use Rattle.std.proofs.lemmas.Bool.{and_parts, and_from, eqb-true, leb-true, le-leb}
use Rattle.network.specs.Network.{Network}
use Rattle.scale.specs.Measure.{Measure}
use Rattle.scale.specs.ThreeScales.{total, worst, tally, most}
use Rattle.promise.specs.Ledger.{nothing_yet}
use Rattle.worked_lines.specs.Lines.{Line, Lines, Only, LeadsTo}
use Rattle.worked_lines.specs.Worked.{worked, feed_7, total_lines, worst_lines, tally_lines, WorkedLines, OnlyThese}
use Rattle.worked_lines.specs.Further.{single, wide, ring, feed_9, further_lines, worst_further, worst_wrong, tally_further, single_1_lines, single_7_lines, wide_lines, ring_lines, ring_wrong, FurtherLines, worked_routes, worked_no_routes, worked_no_way, ring_routes, ring_no_routes, worked_choices, worked_no_choices, total_shares, worst_shares, tally_shares, RouteLines, total_figures, worst_figures, tally_figures, ScaleLines, first_run, second_run, third_run, fourth_run, steps, RunLines}
use Rattle.scale.specs.ThreeScalesLawful.{pairs, total_lawful, worst_lawful, tally_lawful}
use Rattle.worked_lines.proofs.AnswerTest.{ToldBy}
use Rattle.worked_lines.proofs.AnswerTestSound.{ToldRight}
use Rattle.worked_lines.proofs.NetworkTest.{proper?, proper_sound}
use Rattle.worked_lines.proofs.LineTests.{lines?, lines_right, lines_only, runs?, run_leads, wrong?, wrong_sound, routes?, no_routes?, no_way?, choices?, no_choices?, routes_sound, no_routes_sound, no_way_sound, choices_sound, no_choices_sound, steps?, steps_sound, figures?, figures_sound, shares?, shares_sound}

abbrev number : ToldBy ℕ
number = record { value? = λ x. leb x most; same? = eqb }

abbrev numbers : ToldBy (ℕ × ℕ)
numbers = record { value? = λ x. leb x.0 65535 && leb x.1 most; same? = λ x y. eqb x.0 y.0 && eqb x.1 y.1 }

-- every test passes
abbrev together : List Bool → Bool
together [] = true
together (x ∷ xs) = x && together xs

abbrev proper_tests : List Bool
proper_tests = proper? worked ∷ proper? (single 1) ∷ proper? (single 7) ∷ proper? wide ∷ proper? ring ∷ []

abbrev worked_tests : List Bool
worked_tests = lines? number total worked total_lines ∷ lines? number worst worked worst_lines ∷ lines? numbers tally worked tally_lines ∷ []

abbrev further_tests : List Bool
further_tests =
    lines? number total worked further_lines
    ∷ lines? number worst worked worst_further
    ∷ lines? numbers tally worked tally_further
    ∷ lines? number total (single 1) single_1_lines
    ∷ lines? number total (single 7) single_7_lines
    ∷ lines? number total wide wide_lines
    ∷ lines? number total ring ring_lines
    ∷ wrong? number total ring ring_wrong
    ∷ wrong? number worst worked worst_wrong
    ∷ []

abbrev route_tests : List Bool
route_tests =
    routes? worked worked_routes
    ∷ no_routes? worked worked_no_routes
    ∷ no_way? worked worked_no_way
    ∷ routes? ring ring_routes
    ∷ no_routes? ring ring_no_routes
    ∷ choices? worked worked_choices
    ∷ no_choices? worked worked_no_choices
    ∷ shares? number total worked total_shares
    ∷ shares? number worst worked worst_shares
    ∷ shares? numbers tally worked tally_shares
    ∷ []

abbrev scale_tests : List Bool
scale_tests = figures? number total total_figures ∷ figures? number worst worst_figures ∷ figures? numbers tally tally_figures ∷ []

abbrev run_tests : List Bool
run_tests =
    runs? number total worked nothing_yet first_run feed_7
    ∷ runs? number total worked feed_7 second_run feed_7
    ∷ runs? number total worked feed_7 third_run feed_9
    ∷ runs? number total worked feed_9 fourth_run nothing_yet
    ∷ steps? steps
    ∷ []

-- the computation
abbrev groups : List Bool
groups = together proper_tests ∷ together worked_tests ∷ together further_tests ∷ together route_tests ∷ together scale_tests ∷ together run_tests ∷ []

pub all_right : together groups ≡ true
all_right = refl

-- what it tells of each test, by its place
abbrev at : List Bool → ℕ → Bool
at [] i = true
at (x ∷ xs) zero = x
at (x ∷ xs) (suc i) = at xs i

passes : (xs : List Bool) → together xs ≡ true → (i : ℕ) → at xs i ≡ true
passes [] h i = refl
passes (x ∷ xs) h zero = (and_parts x (together xs) h).0
passes (x ∷ xs) h (suc i) = passes xs (and_parts x (together xs) h).1 i

proper_pass : (i : ℕ) → at proper_tests i ≡ true
proper_pass = passes proper_tests (passes groups all_right 0)

worked_pass : (i : ℕ) → at worked_tests i ≡ true
worked_pass = passes worked_tests (passes groups all_right 1)

further_pass : (i : ℕ) → at further_tests i ≡ true
further_pass = passes further_tests (passes groups all_right 2)

route_pass : (i : ℕ) → at route_tests i ≡ true
route_pass = passes route_tests (passes groups all_right 3)

scale_pass : (i : ℕ) → at scale_tests i ≡ true
scale_pass = passes scale_tests (passes groups all_right 4)

run_pass : (i : ℕ) → at run_tests i ≡ true
run_pass = passes run_tests (passes groups all_right 5)

-- what the tests rest on
number_value : (x : ℕ) → leb x most ≡ true → x ≤ most
number_value x h = leb-true x most h

numbers_value : (x : ℕ × ℕ) → numbers.value? x ≡ true → tally.value x
numbers_value x h = let p = and_parts (leb x.0 65535) (leb x.1 most) h in (leb-true x.0 65535 p.0, leb-true x.1 most p.1)

numbers_valued : (x : ℕ × ℕ) → tally.value x → numbers.value? x ≡ true
numbers_valued x h = and_from (leb x.0 65535) (leb x.1 most) (le-leb x.0 65535 h.0) (le-leb x.1 most h.1)

numbers_same : (x y : ℕ × ℕ) → numbers.same? x y ≡ true → x ≡ y
numbers_same x y h = let p = and_parts (eqb x.0 y.0) (eqb x.1 y.1) h in pairs x y (eqb-true x.0 y.0 p.0) (eqb-true x.1 y.1 p.1)

total_told : (n : Network) → proper? n ≡ true → ToldRight number total n
total_told n h = record { lawful = total_lawful; proper = proper_sound n h; value = number_value; same = eqb-true }

worst_told : (n : Network) → proper? n ≡ true → ToldRight number worst n
worst_told n h = record { lawful = worst_lawful; proper = proper_sound n h; value = number_value; same = eqb-true }

tally_told : (n : Network) → proper? n ≡ true → ToldRight numbers tally n
tally_told n h = record { lawful = tally_lawful; proper = proper_sound n h; value = numbers_value; same = numbers_same }

by_total : ToldRight number total worked
by_total = total_told worked (proper_pass 0)

by_worst : ToldRight number worst worked
by_worst = worst_told worked (proper_pass 0)

by_tally : ToldRight numbers tally worked
by_tally = tally_told worked (proper_pass 0)

pub worked_lines : WorkedLines
worked_lines = (lines_right number total worked by_total total_lines (worked_pass 0), lines_right number worst worked by_worst worst_lines (worked_pass 1), lines_right numbers tally worked by_tally tally_lines (worked_pass 2))

pub only_these : OnlyThese
only_these = (lines_only number total worked by_total total_lines (worked_pass 0), lines_only number worst worked by_worst worst_lines (worked_pass 1), lines_only numbers tally worked by_tally tally_lines (worked_pass 2))

hold : {V : Type 0} (d : ToldBy V) (s : Measure V) (n : Network) → ToldRight d s n → (xs : List (Line V)) → lines? d s n xs ≡ true → Lines s n xs × Only s n xs
hold d s n g xs h = (lines_right d s n g xs h, lines_only d s n g xs h)

pub further : FurtherLines
further = record {
  by_total = hold number total worked by_total further_lines (further_pass 0);
  by_worst = hold number worst worked by_worst worst_further (further_pass 1);
  by_tally = hold numbers tally worked by_tally tally_further (further_pass 2);
  at_single_1 = hold number total (single 1) (total_told (single 1) (proper_pass 1)) single_1_lines (further_pass 3);
  at_single_7 = hold number total (single 7) (total_told (single 7) (proper_pass 2)) single_7_lines (further_pass 4);
  at_wide = hold number total wide (total_told wide (proper_pass 3)) wide_lines (further_pass 5);
  at_ring = hold number total ring (total_told ring (proper_pass 4)) ring_lines (further_pass 6);
  wrong_at_ring = wrong_sound number total ring ring_wrong (further_pass 7);
  wrong_by_worst = wrong_sound number worst worked worst_wrong (further_pass 8);
}

pub routes_and_sets : RouteLines
routes_and_sets = record {
  routes = routes_sound worked worked_routes (route_pass 0);
  no_routes = no_routes_sound worked worked_no_routes (route_pass 1);
  no_way = no_way_sound worked worked_no_way (route_pass 2);
  on_ring = routes_sound ring ring_routes (route_pass 3);
  not_on_ring = no_routes_sound ring ring_no_routes (route_pass 4);
  choices = choices_sound worked worked_choices (route_pass 5);
  no_choices = no_choices_sound worked worked_no_choices (route_pass 6);
  by_total = shares_sound number total eqb-true worked total_shares (route_pass 7);
  by_worst = shares_sound number worst eqb-true worked worst_shares (route_pass 8);
  by_tally = shares_sound numbers tally numbers_same worked tally_shares (route_pass 9);
}

pub scales : ScaleLines
scales = record {
  by_total = figures_sound number total number_value (λ x h. le-leb x most h) eqb-true total_figures (scale_pass 0);
  by_worst = figures_sound number worst number_value (λ x h. le-leb x most h) eqb-true worst_figures (scale_pass 1);
  by_tally = figures_sound numbers tally numbers_value numbers_valued numbers_same tally_figures (scale_pass 2);
}

first_kept : LeadsTo total worked nothing_yet first_run feed_7
first_kept = run_leads number total worked by_total nothing_yet first_run feed_7 (run_pass 0)

pub runs : RunLines
runs = record {
  booked = first_kept.0;
  first = first_kept;
  second = run_leads number total worked by_total feed_7 second_run feed_7 (run_pass 1);
  third = run_leads number total worked by_total feed_7 third_run feed_9 (run_pass 2);
  fourth = run_leads number total worked by_total feed_9 fourth_run nothing_yet (run_pass 3);
  not_first = λ h. let e : ◌≡◌ {A = ℕ} 39999 40000 = h.0.1 in omega arith;
  not_later = λ h. let e : ◌≡◌ {A = ℕ} 29999 30000 = h.1.0.1 in omega arith;
  not_after = λ h. let e : ◌≡◌ {A = ℕ} 60000 40000 = h.1.0.1 in omega arith;
  changes = steps_sound steps (run_pass 4);
}
