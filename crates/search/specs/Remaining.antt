-- What an iterator of arcs has left. Assumes nothing.
use Rattle.std.specs.Prelude.{ℕ, List}
use Rattle.search.specs.declared.Arc.{Arc}
use Rattle.search.specs.declared.graph.ArcsAt.{ArcsAt}
use Rattle.search.specs.Links.{arcs_at}

-- the arcs that are still to come, each with its number
abbrev pub arcs_left : ArcsAt → List (ℕ × Arc)
arcs_left s = arcs_at s.arcs.now s.chains.now.by s.place s.at
