-- Further lines, so that no rule of the definitions can be turned without a line that sees it. Assumes nothing.
use Rattle.std.specs.Prelude.{ℕ, zero, suc, true, false, List, [], ◌∷◌, ◌++◌}
use Rattle.network.specs.Network.{Network}
use Rattle.scale.specs.ThreeScales.{total, worst, tally}
use Rattle.scale.specs.Measure.{Measure}
use Rattle.promise.specs.declared.Mode.{Mode}
use Rattle.promise.specs.declared.Mode.TheVariants.{OnePlusOne, OneToOne}
use Rattle.promise.specs.Ledger.{Feed, Notice, Ledger, nothing_yet}
use Rattle.promise.specs.Promise.{Plan, safest, widest, book, Act, release, close, reopen, Tell, left, opens, uses, Call, plan, act, tell, Answer, refused, pair, done, told, Entry, Run}
use Rattle.worked_lines.specs.Lines.{Line, line, roomed, acting, telling, Lines, Only, Wrong, LeadsTo, Step, Steps, Way, Routes, NoRoutes, NoWay, Proposal, Choices, NoChoices, Share, Shares, Weight, Join, Order, Figures, Keeps}
use Rattle.worked_lines.specs.Worked.{circuit_of, worked, upper, lower, across, standing, feed_7, ask, reach}

-- Ledgers over the worked network.

abbrev feed : ℕ → ℕ → Mode → List ℕ → List ℕ → Feed
feed number rate m first second = record { number = number; from = 0; to = 3; rate = rate; mode = m; first = first; second = second }

abbrev notice : ℕ → ℕ → Notice
notice number circuit = record { number = number; circuit = circuit }

abbrev feeds_only : List Feed → Ledger
feeds_only fs = record { feeds = fs; notices = [] }

abbrev notices_only : List Notice → Ledger
notices_only xs = record { feeds = []; notices = xs }

-- one notice, of number 1, stands on circuit 2
abbrev pub closed_2 : Ledger
closed_2 = notices_only (notice 1 2 ∷ [])

-- feed 7 and a 1+1 feed whose routes share circuit 3
abbrev pub feeds_7_9 : Ledger
feeds_7_9 = feeds_only (feed 7 20000 OneToOne upper lower ∷ feed 9 5000 OnePlusOne lower across ∷ [])

abbrev pub feed_9 : Ledger
feed_9 = feeds_only (feed 9 5000 OnePlusOne lower across ∷ [])

-- as many feeds, of rate 1 each, and as many notices, all on circuit 4, numbered from 1
abbrev many_feeds : ℕ → List Feed
many_feeds zero = []
many_feeds (suc k) = feed (suc k) 1 OneToOne upper lower ∷ many_feeds k

abbrev pub crowd : ℕ → Ledger
crowd k = feeds_only (many_feeds k)

abbrev many_notices : ℕ → List Notice
many_notices zero = []
many_notices (suc k) = notice (suc k) 4 ∷ many_notices k

abbrev pub noticed : ℕ → Ledger
noticed k = notices_only (many_notices k)

-- Lines by total on the worked network.

-- what standing feeds take
abbrev taken_lines : List (Line ℕ)
taken_lines =
    line (standing 8 20000 OneToOne lower lower) (ask 20000 OneToOne) (pair 20000 upper across 3)  -- 1:1 takes the rate once where both routes run
    ∷ line (standing 9 10000 OnePlusOne lower lower) (ask 10001 OneToOne) (pair 10001 upper across 3)  -- 1+1 takes it twice there
    ∷ []

-- a closed circuit is used by no route, whichever of the notices names it; the notice's own number closes nothing
abbrev closed_lines : List (Line ℕ)
closed_lines =
    line closed_2 (ask 20000 OneToOne) (pair 20000 lower across 4)
    ∷ line (notices_only (notice 1 4 ∷ notice 3 2 ∷ [])) (ask 20000 OneToOne) (pair 20000 lower lower 9)  -- closed by the second notice
    ∷ line (notices_only (notice 3 2 ∷ notice 1 4 ∷ [])) (ask 20000 OneToOne) (pair 20000 lower lower 9)  -- closed by the first
    ∷ []

-- safest: each check alone, then each before the next
abbrev safest_lines : List (Line ℕ)
safest_lines =
    line nothing_yet (safest 4 3 1 OneToOne) (refused 13)  -- the first place is unknown
    ∷ line nothing_yet (safest 0 4 1 OneToOne) (refused 13)  -- the second is
    ∷ line nothing_yet (safest 1 1 1 OneToOne) (refused 13)  -- both are the same
    ∷ line nothing_yet (ask 0 OneToOne) (refused 14)  -- 0 is no rate
    ∷ line nothing_yet (ask 1 OneToOne) (pair 1 upper lower 0)  -- 1 is
    ∷ roomed 126 127 nothing_yet (ask 20000 OneToOne) (refused 15)  -- the first list is short
    ∷ roomed 127 126 nothing_yet (ask 20000 OneToOne) (refused 15)  -- the second is
    ∷ line nothing_yet (safest 0 0 0 OneToOne) (refused 13)  -- 13 before 14
    ∷ roomed 126 126 nothing_yet (ask 0 OneToOne) (refused 14)  -- 14 before 15
    ∷ roomed 126 127 nothing_yet (ask 30001 OneToOne) (refused 15)  -- 15 before 16
    ∷ []

-- widest: each check before the next; no route leads from place 3 to place 0
abbrev widest_lines : List (Line ℕ)
widest_lines =
    roomed 126 126 nothing_yet (widest 0 0 OneToOne 9) (refused 13)  -- 13 before 15
    ∷ roomed 127 126 nothing_yet (widest 3 0 OneToOne 9) (refused 15)  -- 15 before 16
    ∷ line nothing_yet (widest 3 0 OneToOne 0) (refused 16)  -- 16 before 17
    ∷ []

-- book: at the limit and at the crowd, then each check before the next
abbrev book_lines : List (Line ℕ)
book_lines =
    line nothing_yet (book 1 0 3 25000 OnePlusOne 4) (pair 25000 lower across 4)  -- the limit is just met
    ∷ line nothing_yet (book 1 0 3 25000 OnePlusOne 3) (refused 17)  -- and just missed
    ∷ line feed_7 (book 8 0 3 20000 OneToOne 7) (refused 17)  -- by what feed 7 left
    ∷ line (crowd 31) (book 32 0 3 1 OneToOne 0) (pair 1 upper lower 0)  -- a 32nd feed
    ∷ line (noticed 32) (book 1 0 3 1 OneToOne 0) (pair 1 upper lower 0)  -- notices and their numbers do not count
    ∷ line (standing 0 1 OneToOne upper lower) (book 0 0 3 1 OneToOne 0) (refused 9)  -- 9 before 10
    ∷ line (crowd 32) (book 1 0 3 1 OneToOne 0) (refused 10)  -- 10 before 12
    ∷ line (crowd 32) (book 33 0 0 1 OneToOne 0) (refused 12)  -- 12 before 13
    ∷ line nothing_yet (book 1 0 0 0 OneToOne 0) (refused 13)  -- 13 before 14
    ∷ roomed 126 126 nothing_yet (book 1 0 3 0 OneToOne 0) (refused 14)  -- 14 before 15
    ∷ roomed 127 126 nothing_yet (book 1 0 3 30001 OneToOne 0) (refused 15)  -- 15 before 16
    ∷ line nothing_yet (book 1 0 3 30001 OneToOne 0) (refused 16)  -- 16 before 17
    ∷ []

-- release: the second feed in the list; number 0, which stands nowhere; a notice's number is no feed's
abbrev release_lines : List (Line ℕ)
release_lines = acting feeds_7_9 (release 9) done ∷ acting feed_7 (release 0) (refused 9) ∷ acting feed_7 (release 8) (refused 11) ∷ acting closed_2 (release 1) (refused 11) ∷ []

-- close: what is accepted, then each check before the next
abbrev close_lines : List (Line ℕ)
close_lines =
    acting nothing_yet (close 1 4) done  -- the last circuit
    ∷ acting closed_2 (close 2 2) done  -- a circuit may be closed twice
    ∷ acting feed_7 (close 7 0) done  -- a feed's number is no notice's
    ∷ acting (noticed 31) (close 32 0) done  -- a 32nd notice
    ∷ acting (crowd 32) (close 33 0) done  -- feeds do not count
    ∷ acting (notices_only (notice 0 2 ∷ [])) (close 0 2) (refused 9)  -- 9 before 10
    ∷ acting closed_2 (close 1 5) (refused 10)  -- 10 before 11
    ∷ acting (noticed 32) (close 33 5) (refused 11)  -- 11 before 12
    ∷ acting (noticed 32) (close 33 4) (refused 12)  -- a 33rd notice
    ∷ []

-- reopen
abbrev reopen_lines : List (Line ℕ)
reopen_lines =
    acting (noticed 2) (reopen 1) done  -- the second in the list
    ∷ acting closed_2 (reopen 0) (refused 9)  -- 9 before 11
    ∷ acting closed_2 (reopen 2) (refused 11)  -- a circuit's number is no notice's
    ∷ acting feed_7 (reopen 7) (refused 11)  -- nor is a feed's
    ∷ []

-- what is told of circuits and feeds, and of those that do not exist; the last circuit is number 4
abbrev tell_lines : List (Line ℕ)
tell_lines =
    telling feeds_7_9 (left 3) (told 20000)  -- 50,000 less 20,000 once and 5,000 twice
    ∷ telling nothing_yet (left 4) (told 25000)
    ∷ telling nothing_yet (left 5) (refused 11)  -- no such circuit
    ∷ telling closed_2 (opens 2) (told 0)  -- closed
    ∷ telling closed_2 (opens 1) (told 1)  -- open
    ∷ telling nothing_yet (opens 5) (refused 11)
    ∷ telling feeds_7_9 (uses 9 3) (told 2)
    ∷ telling feeds_7_9 (uses 9 4) (told 1)
    ∷ telling feeds_7_9 (uses 9 2) (told 0)
    ∷ telling feeds_7_9 (uses 7 2) (told 1)
    ∷ telling feed_7 (uses 0 2) (refused 9)  -- 9 before 11
    ∷ telling feed_7 (uses 9 2) (refused 11)  -- no such feed
    ∷ telling feed_7 (uses 7 5) (refused 11)  -- no such circuit
    ∷ []

abbrev pub further_lines : List (Line ℕ)
further_lines = taken_lines ++ closed_lines ++ safest_lines ++ widest_lines ++ book_lines ++ release_lines ++ close_lines ++ reopen_lines ++ tell_lines

-- Limits by the other scales: a limit of worst is met by the dearest circuit alone; a limit of tally is met by fewer circuits at any cost.

abbrev pub worst_further : List (Line ℕ)
worst_further =
    line nothing_yet (reach OneToOne 3) (pair 20000 upper lower 0)
    ∷ line nothing_yet (reach OneToOne 4) (pair 25000 lower across 4)
    ∷ line nothing_yet (reach OneToOne 5) (pair 30000 lower lower 5)
    ∷ line (notices_only (notice 1 1 ∷ [])) (ask 15000 OnePlusOne) (pair 15000 upper across 3)
    ∷ []

-- by worst, sharing circuit 2 as well costs no more; but in 1+1 mode it has to carry the rate twice
abbrev pub worst_wrong : List (Line ℕ)
worst_wrong = line (notices_only (notice 1 1 ∷ [])) (ask 15000 OnePlusOne) (pair 15000 upper upper 3) ∷ []

abbrev pub tally_further : List (Line (ℕ × ℕ))
tally_further =
    line nothing_yet (reach OneToOne (1, 3)) (pair 20000 upper lower (0, 0))  -- one circuit of cost 4 is too dear
    ∷ line nothing_yet (reach OneToOne (1, 4)) (pair 25000 lower across (1, 4))
    ∷ line nothing_yet (reach OneToOne (2, 0)) (pair 25000 lower across (1, 4))  -- one circuit is fewer than two, at any cost
    ∷ line nothing_yet (reach OneToOne (2, 8)) (pair 25000 lower across (1, 4))  -- two circuits of cost 9 are too dear
    ∷ line nothing_yet (reach OneToOne (2, 9)) (pair 30000 lower lower (2, 9))
    ∷ []

-- One circuit, with its bandwidth, of cost 6: in 1+1 mode half its bandwidth is the most, so bandwidth 1 carries no pair and 7 carries 3.

abbrev pub single : ℕ → Network
single w = record { places = 2; circuits = circuit_of 0 1 w 6 ∷ [] }

abbrev only_one : List ℕ
only_one = 0 ∷ []

abbrev pub single_1_lines : List (Line ℕ)
single_1_lines = line nothing_yet (widest 0 1 OnePlusOne 6) (refused 16) ∷ line nothing_yet (widest 0 1 OneToOne 6) (pair 1 only_one only_one 6) ∷ []

abbrev pub single_7_lines : List (Line ℕ)
single_7_lines =
    line nothing_yet (widest 0 1 OnePlusOne 6) (pair 3 only_one only_one 6)
    ∷ line nothing_yet (widest 0 1 OnePlusOne 5) (refused 17)
    ∷ line nothing_yet (safest 0 1 4 OnePlusOne) (refused 16)
    ∷ []

-- Two circuits with more than the largest rate: what they could carry beyond 1,000,000 is no rate.

abbrev pub wide : Network
wide = record { places = 2; circuits = circuit_of 0 1 1000002 6 ∷ circuit_of 0 1 64000000 7 ∷ [] }

abbrev pub wide_lines : List (Line ℕ)
wide_lines =
    line nothing_yet (safest 0 1 1000000 OnePlusOne) (pair 1000000 (0 ∷ []) (1 ∷ []) 0)
    ∷ line nothing_yet (safest 0 1 1000001 OnePlusOne) (refused 14)  -- though both circuits could carry it
    ∷ line nothing_yet (widest 0 1 OnePlusOne 0) (pair 1000000 (0 ∷ []) (1 ∷ []) 0)
    ∷ []

-- A network with cycles: back to the place where the order starts (0, 4), between two places on the way (1, 2), and past the order's end (6).

abbrev pub ring : Network
ring = record { places = 4; circuits = circuit_of 0 1 900 1 ∷ circuit_of 1 2 900 2 ∷ circuit_of 2 1 900 4 ∷ circuit_of 1 3 900 8 ∷ circuit_of 1 0 900 16 ∷ circuit_of 0 3 500 32 ∷ circuit_of 3 0 900 64 ∷ [] }

abbrev around : List ℕ
around = 0 ∷ 3 ∷ []

abbrev straight : List ℕ
straight = 5 ∷ []

abbrev pub ring_lines : List (Line ℕ)
ring_lines =
    line nothing_yet (safest 0 3 500 OnePlusOne) (pair 500 around straight 0)
    ∷ line nothing_yet (safest 0 3 501 OneToOne) (pair 501 around around 9)
    ∷ line nothing_yet (safest 3 1 900 OneToOne) (pair 900 (6 ∷ 0 ∷ []) (6 ∷ 0 ∷ []) 65)  -- from the last place
    ∷ []

-- the costs are the least, but one of the two visits a place twice
abbrev pub ring_wrong : List (Line ℕ)
ring_wrong =
    line nothing_yet (safest 0 3 501 OneToOne) (pair 501 (0 ∷ 1 ∷ 2 ∷ 3 ∷ []) around 9)  -- place 1 twice
    ∷ line (notices_only (notice 1 3 ∷ [])) (safest 0 3 500 OneToOne) (pair 500 straight (0 ∷ 4 ∷ 5 ∷ []) 32)  -- the start twice
    ∷ line (notices_only (notice 1 4 ∷ [])) (safest 1 3 500 OneToOne) (pair 500 (3 ∷ 6 ∷ 5 ∷ []) (3 ∷ []) 8)  -- the end twice
    ∷ []

-- each of these lines is right, and every right answer to its call agrees with it; the last two lists are wrong
abbrev Hold : {V : Type 0} → Measure V → Network → List (Line V) → Type 0
Hold s n xs = Lines s n xs × Only s n xs

pub record FurtherLines : Type 0 where
  pub by_total : Hold total worked further_lines
  pub by_worst : Hold worst worked worst_further
  pub by_tally : Hold tally worked tally_further
  pub at_single_1 : Hold total (single 1) single_1_lines
  pub at_single_7 : Hold total (single 7) single_7_lines
  pub at_wide : Hold total wide wide_lines
  pub at_ring : Hold total ring ring_lines
  pub wrong_at_ring : Wrong total ring ring_wrong
  pub wrong_by_worst : Wrong worst worked worst_wrong

-- Routes and sets.

abbrev way : ℕ → ℕ → List ℕ → Way
way a b cs = record { from = a; to = b; circuits = cs }

abbrev pub worked_routes : List Way
worked_routes = way 0 3 upper ∷ way 0 3 lower ∷ way 0 3 across ∷ []

-- no circuit at all; one that ends too early, one that starts too late, one with a gap
abbrev pub worked_no_routes : List Way
worked_no_routes = way 0 0 [] ∷ way 0 3 (0 ∷ []) ∷ way 0 3 (2 ∷ []) ∷ way 0 3 (0 ∷ 3 ∷ []) ∷ []

-- a number that no circuit has leads nowhere
abbrev pub worked_no_way : List Way
worked_no_way = way 0 3 (5 ∷ 0 ∷ 2 ∷ []) ∷ []

abbrev pub ring_routes : List Way
ring_routes = way 0 3 around ∷ way 0 3 straight ∷ way 2 0 (2 ∷ 3 ∷ 6 ∷ []) ∷ []

-- a place visited twice: on the way, the start, the end
abbrev pub ring_no_routes : List Way
ring_no_routes = way 0 3 (0 ∷ 1 ∷ 2 ∷ 3 ∷ []) ∷ way 0 3 (0 ∷ 4 ∷ 5 ∷ []) ∷ way 1 3 (3 ∷ 6 ∷ 5 ∷ []) ∷ way 0 0 (0 ∷ 4 ∷ []) ∷ []

abbrev proposed : Ledger → Mode → ℕ → List (List ℕ) → Proposal
proposed l m rate rs = record { ledger = l; from = 0; to = 3; mode = m; rate = rate; routes = rs }

-- sets that can carry the rate
abbrev pub worked_choices : List Proposal
worked_choices =
    proposed nothing_yet OneToOne 20000 (upper ∷ lower ∷ across ∷ [])  -- three routes
    ∷ proposed nothing_yet OneToOne 30000 (lower ∷ lower ∷ lower ∷ [])  -- one route three times
    ∷ proposed nothing_yet OnePlusOne 10000 (lower ∷ lower ∷ lower ∷ [])  -- three times the rate on circuit 1
    ∷ proposed closed_2 OneToOne 25000 (lower ∷ across ∷ [])
    ∷ []

-- and these are no sets, or cannot carry the rate
abbrev pub worked_no_choices : List Proposal
worked_no_choices =
    proposed nothing_yet OneToOne 1 []  -- no route
    ∷ proposed nothing_yet OneToOne 1 (lower ∷ [])  -- one route
    ∷ proposed nothing_yet OneToOne 1 (lower ∷ (0 ∷ []) ∷ [])  -- the second is no route
    ∷ proposed nothing_yet OneToOne 1 ((0 ∷ []) ∷ lower ∷ [])  -- the first is none
    ∷ proposed nothing_yet OneToOne 30001 (lower ∷ lower ∷ lower ∷ [])  -- one kbit/s too much
    ∷ proposed nothing_yet OnePlusOne 10001 (lower ∷ lower ∷ lower ∷ [])  -- three kbit/s too much, though two would fit
    ∷ proposed closed_2 OneToOne 1 (lower ∷ upper ∷ [])  -- circuit 2 is closed
    ∷ proposed feed_7 OneToOne 1 (lower ∷ upper ∷ [])  -- circuit 2 is full
    ∷ []

abbrev share : {V : Type 0} → List (List ℕ) → V → Share V
share rs c = record { routes = rs; cost = c }

-- shared is what every route uses: two of three are not enough
abbrev pub total_shares : List (Share ℕ)
total_shares =
    share (upper ∷ across ∷ []) 3
    ∷ share (upper ∷ across ∷ lower ∷ []) 0
    ∷ share (lower ∷ upper ∷ across ∷ []) 0
    ∷ share (lower ∷ across ∷ lower ∷ []) 4
    ∷ share (lower ∷ lower ∷ lower ∷ []) 9
    ∷ []

abbrev pub worst_shares : List (Share ℕ)
worst_shares = share (upper ∷ lower ∷ []) 0 ∷ share (lower ∷ lower ∷ lower ∷ []) 5 ∷ share (across ∷ across ∷ []) 4 ∷ []

abbrev pub tally_shares : List (Share (ℕ × ℕ))
tally_shares = share (upper ∷ lower ∷ []) (0, 0) ∷ share (lower ∷ across ∷ lower ∷ []) (1, 4) ∷ share (across ∷ across ∷ []) (3, 8) ∷ []

pub record RouteLines : Type 0 where
  pub routes : Routes worked worked_routes
  pub no_routes : NoRoutes worked worked_no_routes
  pub no_way : NoWay worked worked_no_way
  pub on_ring : Routes ring ring_routes
  pub not_on_ring : NoRoutes ring ring_no_routes
  pub choices : Choices worked worked_choices
  pub no_choices : NoChoices worked worked_no_choices
  pub by_total : Shares total worked total_shares
  pub by_worst : Shares worst worked worst_shares
  pub by_tally : Shares tally worked tally_shares

-- The scales by themselves, where no network of a register comes near.

abbrev weighs : {V : Type 0} → ℕ → V → Weight V
weighs c w = record { cost = c; weight = w }

abbrev joins : {V : Type 0} → V → V → V → Join V
joins x y z = record { first = x; second = y; joined = z }

abbrev within : {V : Type 0} → V → V → Order V
within x y = record { first = x; second = y; at_most = true }

abbrev beyond : {V : Type 0} → V → V → Order V
beyond x y = record { first = x; second = y; at_most = false }

-- the sum, up to 4,294,967,295 and no further
abbrev pub total_figures : Figures ℕ
total_figures = record {
  zero = 0;
  weights = weighs 0 0 ∷ weighs 1000000 1000000 ∷ [];
  joins = joins 3 4 7 ∷ joins 4294967290 4 4294967294 ∷ joins 4294967294 1 4294967295 ∷ joins 4294967295 1 4294967295 ∷ joins 1 4294967295 4294967295 ∷ [];
  orders = within 4 4 ∷ within 4 5 ∷ beyond 5 4 ∷ within 4294967294 4294967295 ∷ beyond 4294967295 4294967294 ∷ [];
  values = 0 ∷ 4294967295 ∷ [];
  no_values = 4294967296 ∷ [];
}

-- the larger, whichever comes first
abbrev pub worst_figures : Figures ℕ
worst_figures = record {
  zero = 0;
  weights = weighs 0 0 ∷ weighs 1000000 1000000 ∷ [];
  joins = joins 3 5 5 ∷ joins 5 3 5 ∷ joins 4294967295 4294967294 4294967295 ∷ [];
  orders = within 4 4 ∷ within 4 5 ∷ beyond 5 4 ∷ within 4294967294 4294967295 ∷ beyond 4294967295 4294967294 ∷ [];
  values = 0 ∷ 4294967295 ∷ [];
  no_values = 4294967296 ∷ [];
}

-- numbers and totals are added; totals stop by themselves, and a number past 65,535 stops both; numbers compare first
abbrev pub tally_figures : Figures (ℕ × ℕ)
tally_figures = record {
  zero = (0, 0);
  weights = weighs 0 (1, 0) ∷ weighs 1000000 (1, 1000000) ∷ [];
  joins = joins (1, 3) (2, 4) (3, 7) ∷ joins (65534, 3) (1, 4) (65535, 7) ∷ joins (65535, 3) (0, 4) (65535, 7) ∷ joins (65535, 3) (1, 4) (65535, 4294967295) ∷ joins (1, 4) (65535, 3) (65535, 4294967295) ∷ joins (1, 4294967290) (1, 5) (2, 4294967295) ∷ joins (1, 4294967295) (1, 1) (2, 4294967295) ∷ [];
  orders = within (1, 9) (2, 0) ∷ beyond (2, 0) (1, 9) ∷ within (2, 4) (2, 4) ∷ within (2, 3) (2, 4) ∷ beyond (2, 4) (2, 3) ∷ [];
  values = (0, 0) ∷ (65535, 4294967295) ∷ [];
  no_values = (65536, 0) ∷ (0, 4294967296) ∷ [];
}

pub record ScaleLines : Type 0 where
  pub by_total : Keeps total total_figures
  pub by_worst : Keeps worst worst_figures
  pub by_tally : Keeps tally tally_figures

-- Runs on the worked network, by total, and what calls make of the ledger.

abbrev entry : Call ℕ → Answer ℕ → Entry ℕ
entry call answer = record { call = call; answer = answer }

abbrev asked : Plan ℕ → Answer ℕ → Entry ℕ
asked x answer = entry (plan x 127 127) answer

abbrev did : Act → Entry ℕ
did x = entry (act x) done

abbrev said : Tell → ℕ → Entry ℕ
said x t = entry (tell x) (told t)

-- the bandwidth left on each of the five circuits
abbrev lefts : ℕ → ℕ → ℕ → ℕ → ℕ → List (Entry ℕ)
lefts v w x y z = said (left 0) v ∷ said (left 1) w ∷ said (left 2) x ∷ said (left 3) y ∷ said (left 4) z ∷ []

-- a new book; feed 7 is booked, and no answer but that one takes anything
abbrev pub first_run : List (Entry ℕ)
first_run =
    lefts 40000 30000 20000 50000 25000
    ++ (
    asked (reach OneToOne 9) (pair 30000 lower lower 9)
    ∷ asked (ask 20000 OneToOne) (pair 20000 upper lower 0)
    ∷ asked (book 0 0 3 20000 OneToOne 0) (refused 9)
    ∷ asked (book 7 0 3 20000 OneToOne 0) (pair 20000 upper lower 0)
    ∷ asked (book 7 0 3 1 OneToOne 9) (refused 10)
    ∷ asked (reach OneToOne 0) (refused 17)
    ∷ []
    )
    ++ lefts 20000 10000 0 30000 25000

-- with feed 7 standing, two notices close circuit 3, and the first reopening leaves it closed; feeds keep what they have
abbrev pub second_run : List (Entry ℕ)
second_run =
    did (close 1 3)
    ∷ did (close 2 3)
    ∷ said (opens 3) 0
    ∷ said (left 3) 30000
    ∷ did (reopen 1)
    ∷ said (opens 3) 0
    ∷ asked (ask 1 OneToOne) (refused 16)
    ∷ entry (act (reopen 1)) (refused 11)
    ∷ said (opens 3) 0
    ∷ did (reopen 2)
    ∷ said (opens 3) 1
    ∷ asked (ask 1 OneToOne) (pair 1 lower across 4)
    ∷ []

-- then a 1+1 feed over circuit 3 twice; releasing feed 7 returns what that took and nothing else
abbrev pub third_run : List (Entry ℕ)
third_run =
    (asked (book 9 0 3 5000 OnePlusOne 4) (pair 5000 lower across 4) ∷ said (uses 9 3) 2 ∷ said (uses 7 3) 1 ∷ [])
    ++ lefts 15000 5000 0 20000 20000
    ++ (did (release 7) ∷ entry (act (release 7)) (refused 11) ∷ entry (tell (uses 7 3)) (refused 11) ∷ said (uses 9 3) 2 ∷ [])
    ++ lefts 35000 25000 20000 40000 20000

-- the last feed released, all is as it was
abbrev pub fourth_run : List (Entry ℕ)
fourth_run = did (release 9) ∷ lefts 40000 30000 20000 50000 25000

-- wrong in the first answer, in a later one, and by a booking that takes nothing
abbrev pub wrong_first : List (Entry ℕ)
wrong_first = said (left 0) 39999 ∷ said (left 1) 30000 ∷ []

abbrev pub wrong_later : List (Entry ℕ)
wrong_later = said (left 0) 40000 ∷ said (left 1) 29999 ∷ []

abbrev pub wrong_after : List (Entry ℕ)
wrong_after = asked (book 7 0 3 20000 OneToOne 0) (pair 20000 upper lower 0) ∷ said (left 0) 40000 ∷ []

-- feed 7 and notice 1 stand
abbrev pub both : Ledger
both = record { feeds = feed 7 20000 OneToOne upper lower ∷ []; notices = notice 1 2 ∷ [] }

abbrev step : Ledger → Call ℕ → Answer ℕ → Ledger → Step
step l call answer m = record { before = l; call = call; answer = answer; later = m }

-- a booking adds its feed last, with its places, rate, mode and pair; a closing adds its notice; release and reopen strike out every record
-- of the number and no other; nothing else changes the ledger, an answer of the wrong kind included
abbrev pub steps : List Step
steps =
    step both (plan (book 8 1 2 300 OnePlusOne 5) 127 127) (pair 300 (4 ∷ []) (4 ∷ []) 1) (record { feeds = feed 7 20000 OneToOne upper lower ∷ record { number = 8; from = 1; to = 2; rate = 300; mode = OnePlusOne; first = 4 ∷ []; second = 4 ∷ [] } ∷ []; notices = notice 1 2 ∷ [] })
    ∷ step both (plan (ask 1 OneToOne) 127 127) (pair 1 lower across 4) both
    ∷ step both (plan (reach OneToOne 9) 127 127) (pair 1 lower across 4) both
    ∷ step both (act (close 7 3)) done (record { feeds = feed 7 20000 OneToOne upper lower ∷ []; notices = notice 1 2 ∷ notice 7 3 ∷ [] })
    ∷ step both (act (release 7)) done closed_2
    ∷ step both (act (reopen 1)) done feed_7
    ∷ step (record { feeds = feed 7 1 OneToOne upper lower ∷ feed 9 5000 OnePlusOne lower across ∷ feed 7 2 OneToOne upper lower ∷ []; notices = notice 7 0 ∷ [] }) (act (release 7)) done (record { feeds = feed 9 5000 OnePlusOne lower across ∷ []; notices = notice 7 0 ∷ [] })
    ∷ step (record { feeds = feed 1 5000 OnePlusOne lower across ∷ []; notices = notice 1 0 ∷ notice 2 1 ∷ notice 1 2 ∷ [] }) (act (reopen 1)) done (record { feeds = feed 1 5000 OnePlusOne lower across ∷ []; notices = notice 2 1 ∷ [] })
    ∷ step both (plan (book 8 0 3 1 OneToOne 9) 127 127) (refused 16) both
    ∷ step both (act (release 7)) (refused 11) both
    ∷ step both (act (close 2 2)) (refused 12) both
    ∷ step both (act (reopen 1)) (refused 11) both
    ∷ step both (tell (left 5)) (refused 11) both
    ∷ step both (plan (book 8 0 3 1 OneToOne 9) 127 127) done both
    ∷ step both (plan (book 8 0 3 1 OneToOne 9) 127 127) (told 1) both
    ∷ step both (act (release 7)) (pair 1 upper lower 0) both
    ∷ step both (act (release 7)) (told 1) both
    ∷ step both (tell (uses 7 2)) (pair 1 upper lower 0) both
    ∷ step both (tell (uses 7 2)) done both
    ∷ step both (tell (uses 7 2)) (told 1) both
    ∷ []

pub record RunLines : Type 0 where
  pub booked : Run total worked first_run
  pub first : LeadsTo total worked nothing_yet first_run feed_7
  pub second : LeadsTo total worked feed_7 second_run feed_7
  pub third : LeadsTo total worked feed_7 third_run feed_9
  pub fourth : LeadsTo total worked feed_9 fourth_run nothing_yet
  pub not_first : Run total worked wrong_first → ⊥
  pub not_later : Run total worked wrong_later → ⊥
  pub not_after : Run total worked wrong_after → ⊥
  pub changes : Steps steps
