use Rattle.tables.specs.Standing.{Keeps, ledger_of}
use Rattle.plan.proofs.Rates.{Width, Between}
use Rattle.plan.proofs.question.Question.widest_within.Given as goal

abbrev pub invariant-loop : goal.invariant-loop
invariant-loop g l =
    let n = g.R.Register.network l.self.register.now in
    Width l.counter l.low l.high
    × (Keeps n l.self.tables.now → Between g.S.Scale.measure g.met.S.Scale.lawful n (ledger_of l.self.tables.now) l.self.from l.self.to l.self.mode l.limit l.low l.high l.found)
