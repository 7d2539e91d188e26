use Rattle.std.proofs.Common.{sym, subst}
use Rattle.promise.specs.Promise.{Safest}
use Rattle.promise.proofs.ArcPairs.{refused_none}
use Rattle.promise.proofs.Plans.{safest_routes}
use Rattle.tables.specs.Standing.{ledger_of, route_of}
use Rattle.plan.specs.Planned.{SafestAt}
use Rattle.plan.proofs.question.Question.safest_at.Goals as goal

pub returns-in_err-first : goal.returns-in_err-first
returns-in_err-first g c =
    λ keeps.
    let n = g.R.Register.network c.args.self.now.register.now in
    let l = ledger_of c.args.self.now.tables.now in
    let a = c.args.self.now.from in
    let b = c.args.self.now.to in
    let m = c.args.self.now.mode in
    let found = c.in_err-first.ensures keeps in
    subst (SafestAt g.S.Scale.measure n l a b m c.args.rate) (sym c.from_residual.ensures)
    (refused_none n l m c.args.rate found.0 found.1 a b g.S.Scale.measure found.2)

pub returns : goal.returns
returns g c =
    λ keeps.
    let x = c.args.self.now.register.now in
    let n = g.R.Register.network x in
    let l = ledger_of c.args.self.now.tables.now in
    let a = c.args.self.now.from in
    let b = c.args.self.now.to in
    let m = c.args.self.now.mode in
    let found = c.in_ok-first.ensures keeps in
    let first = route_of c.in_ok-first.first in
    let second = route_of c.in_ok-first.second in
    subst (Safest g.S.Scale.measure n l a b m c.args.rate first second) (sym c.shared_cost-cost.ensures)
    (safest_routes g.S.Scale.measure g.met.S.Scale.lawful n l a b m c.args.rate found.0 found.1 (g.R.Register.proper x) first second found.2.0 found.2.1 found.2.2)
