-- The worked network and its lines: calls with their right answers. Assumes nothing.
use Rattle.std.specs.Prelude.{ℕ, List, [], ◌∷◌}
use Rattle.network.specs.declared.register.Circuit.{Circuit}
use Rattle.network.specs.Network.{Network}
use Rattle.scale.specs.ThreeScales.{total, worst, tally}
use Rattle.promise.specs.declared.Mode.{Mode}
use Rattle.promise.specs.declared.Mode.TheVariants.{OnePlusOne, OneToOne}
use Rattle.promise.specs.Ledger.{Ledger, nothing_yet}
use Rattle.promise.specs.Promise.{Plan, safest, widest, refused, pair}
use Rattle.worked_lines.specs.Lines.{Line, line, Lines, Only}

abbrev pub circuit_of : ℕ → ℕ → ℕ → ℕ → Circuit
circuit_of a b w k = record { from = a; to = b; bandwidth = w; cost = k }

-- four places and five circuits
abbrev pub worked : Network
worked = record { places = 4; circuits = circuit_of 0 1 40000 3 ∷ circuit_of 0 2 30000 5 ∷ circuit_of 1 3 20000 2 ∷ circuit_of 2 3 50000 4 ∷ circuit_of 1 2 25000 1 ∷ [] }

-- its three routes from place 0 to place 3
abbrev pub upper : List ℕ
upper = 0 ∷ 2 ∷ []

abbrev pub lower : List ℕ
lower = 1 ∷ 3 ∷ []

abbrev pub across : List ℕ
across = 0 ∷ 4 ∷ 3 ∷ []

-- one feed from place 0 to place 3 stands
abbrev pub standing : ℕ → ℕ → Mode → List ℕ → List ℕ → Ledger
standing number rate m first second = record { feeds = record { number = number; from = 0; to = 3; rate = rate; mode = m; first = first; second = second } ∷ []; notices = [] }

abbrev pub feed_7 : Ledger
feed_7 = standing 7 20000 OneToOne upper lower

-- orders from place 0 to place 3
abbrev pub ask : {V : Type 0} → ℕ → Mode → Plan V
ask rate m = safest 0 3 rate m

abbrev pub reach : {V : Type 0} → Mode → V → Plan V
reach m limit = widest 0 3 m limit

abbrev pub total_lines : List (Line ℕ)
total_lines =
    line nothing_yet (ask 20000 OneToOne) (pair 20000 upper lower 0)
    ∷ line nothing_yet (ask 21000 OnePlusOne) (pair 21000 lower across 4)
    ∷ line nothing_yet (ask 25000 OnePlusOne) (pair 25000 lower across 4)
    ∷ line nothing_yet (ask 25001 OnePlusOne) (refused 16)
    ∷ line nothing_yet (ask 25001 OneToOne) (pair 25001 lower lower 9)
    ∷ line nothing_yet (ask 30001 OneToOne) (refused 16)
    ∷ line nothing_yet (reach OneToOne 3) (pair 20000 upper lower 0)
    ∷ line nothing_yet (reach OneToOne 4) (pair 25000 lower across 4)
    ∷ line nothing_yet (reach OneToOne 8) (pair 25000 lower across 4)
    ∷ line nothing_yet (reach OneToOne 9) (pair 30000 lower lower 9)
    ∷ line nothing_yet (reach OnePlusOne 9) (pair 25000 lower across 4)
    ∷ line feed_7 (reach OneToOne 0) (refused 17)
    ∷ line feed_7 (reach OneToOne 7) (pair 10000 lower across 4)
    ∷ line feed_7 (reach OneToOne 8) (pair 20000 across across 8)
    ∷ []

abbrev pub worst_lines : List (Line ℕ)
worst_lines = line nothing_yet (ask 25001 OneToOne) (pair 25001 lower lower 5) ∷ []

abbrev pub tally_lines : List (Line (ℕ × ℕ))
tally_lines = line nothing_yet (ask 25001 OneToOne) (pair 25001 lower lower (2, 9)) ∷ []

-- each line is right
abbrev pub WorkedLines : Type 0
WorkedLines = Lines total worked total_lines × Lines worst worked worst_lines × Lines tally worked tally_lines

-- and every right answer to its call agrees with it
abbrev pub OnlyThese : Type 0
OnlyThese = Only total worked total_lines × Only worst worked worst_lines × Only tally worked tally_lines
