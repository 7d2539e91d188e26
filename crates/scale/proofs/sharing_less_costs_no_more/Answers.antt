use Rattle.scale.proofs.Costs.{cheaper}
use Rattle.scale.proofs.sharing_less_costs_no_more.Goals as goal

pub returns : goal.returns
returns g c = cheaper _ g.met.S.Scale.lawful
