use Rattle.std.proofs.Common.{◌+◌}
use Rattle.search.specs.Rolls.{Passed, OfFirst}
use Rattle.search.proofs.spread.Seen.gate.Given as goal

abbrev pub invariant-loop-i : goal.invariant-loop-i
invariant-loop-i l = OfFirst (l.held + l.i) l.self (Passed l.graph.arcs.now l.self)
