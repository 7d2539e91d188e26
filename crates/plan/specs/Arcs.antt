-- Which arcs stand for the circuits, by the tables. Assumes nothing.
use Rattle.std.specs.Prelude.{ℕ, List, Some, None, Option}
use Rattle.network.specs.Network.{Network}
use Rattle.search.specs.declared.Arc.{Arc}
use Rattle.search.specs.Graph as graph
use Rattle.promise.specs.declared.Mode.{Mode}
use Rattle.promise.specs.Ledger.{Ledger}
use Rattle.promise.specs.Lanes.{StandsFor, Lanes}
use Rattle.tables.specs.declared.rows.Route.{Route}
use Rattle.tables.specs.declared.rows.Tables.{Tables}
use Rattle.tables.specs.Standing.{Keeps, route_of, ledger_of}

-- the arc joins two of the places, and stands for the circuit if the tables are those of a book over this network
abbrev pub ArcFor : Network → Tables → Mode → ℕ → ℕ → Arc → Type 0
ArcFor n t m rate c x = graph.Joins n.places x × (Keeps n t → StandsFor n (ledger_of t) m rate c x)

-- two routes by the arcs that share only what every route needs, or none where no two routes can be had
abbrev pub Found : List Arc → ℕ → ℕ → Option (Route × Route) → Type 0
Found g a b None = graph.Refused g a b
Found g a b (Some p) = graph.Route g a b (route_of p.0) × graph.Route g a b (route_of p.1) × graph.Shares g a b (route_of p.0) (route_of p.1)

-- found by arcs that stand for the circuits
abbrev pub FoundAt : Network → Ledger → ℕ → ℕ → Mode → ℕ → Option (Route × Route) → Type 0
FoundAt n l a b m rate r = (g : List Arc) × Lanes n l m rate g × Found g a b r
