use Rattle.scale.proofs.Orders.{any_order}
use Rattle.scale.proofs.order_of_joining_does_not_matter.Goals as goal

pub returns : goal.returns
returns g c = any_order _ g.met.S.Scale.lawful
