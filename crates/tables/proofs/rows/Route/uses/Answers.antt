use Rattle.std.proofs.Common.{eqb, refl, rules}
use Rattle.std.proofs.lemmas.List.Recursion.{or_is}
use Rattle.network.specs.Routes.{uses}
use Rattle.tables.specs.Standing.{route_of}
use Rattle.tables.proofs.rows.Route.uses.Goals as goal

pub returns : goal.returns
returns c = or_is (uses c.args.circuit) (eqb c.args.circuit) refl (λ _ _. refl) (route_of c.args.self.now) 0 _ (search rules) (search rules)
