use Rattle.orders.proofs.Once.{one_meaning}
use Rattle.orders.proofs.reading.line_means_one.Goals as goal

pub returns : goal.returns
returns g c = one_meaning g.S.Limit.spells g.met.S.Limit.single
