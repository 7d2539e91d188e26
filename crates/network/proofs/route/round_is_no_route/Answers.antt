use Rattle.std.specs.Prelude.{[], ◌∷◌}
use Rattle.std.proofs.Common.{sym}
use Rattle.std.proofs.lemmas.Bool.{false≢true}
use Rattle.network.specs.Routes.{Distinct}
use Rattle.network.proofs.route.round_is_no_route.Goals as goal

-- there, back and there again stops at place 0 twice
twice : Distinct (0 ∷ 1 ∷ 0 ∷ 1 ∷ []) → ⊥
twice stops = false≢true (sym stops.0)

pub returns : goal.returns
returns c = λ route. twice route.2
