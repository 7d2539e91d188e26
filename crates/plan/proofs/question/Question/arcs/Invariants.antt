use Rattle.std.proofs.Common.{◌≡◌, ℕ, ◌<◌, drop, length}
use Rattle.search.specs.Graph.{arc}
use Rattle.plan.specs.Arcs.{ArcFor}
use Rattle.plan.proofs.question.Question.arcs.Given as goal

abbrev pub invariant-loop-c : goal.invariant-loop-c
invariant-loop-c g l =
    let n = g.R.Register.network l.self.register.now in
    let i = l.c-iterator.count in
    (drop l.c-iterator.iter.left.start (g.R.Register.network l.c-iterator.iter.register.now).circuits ≡ drop i n.circuits)
    × (length l.arcs ≡ 384)
    × ((k : ℕ) → k < i → ArcFor n l.self.tables.now l.self.mode l.rate k (arc l.arcs k))
