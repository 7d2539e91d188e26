-- Two places with a circuit each way: going round before arriving is no route. Assumes nothing.
use Rattle.std.specs.Prelude.{[], ◌∷◌}
use Rattle.network.specs.Network.{Network}
use Rattle.network.specs.Routes.{Route}

-- a circuit from place 0 to place 1, and one back
abbrev pub there_and_back : Network
there_and_back = record { places = 2; circuits = record { from = 0; to = 1; bandwidth = 1; cost = 0 } ∷ record { from = 1; to = 0; bandwidth = 1; cost = 0 } ∷ [] }

-- there, back and there again visits both places twice
abbrev pub RoundIsNoRoute : Type 0
RoundIsNoRoute = Route there_and_back 0 1 (0 ∷ 1 ∷ 0 ∷ []) → ⊥
