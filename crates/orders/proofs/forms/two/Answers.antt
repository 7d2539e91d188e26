use Rattle.std.proofs.Common.{ap, arith}
use Rattle.orders.specs.declared.statement.Statement.TheVariants.{Order}
use Rattle.orders.proofs.Saying.{shape_2}
use Rattle.orders.proofs.forms.two.Goals as goal

pub returns : goal.returns
returns g c = λ order makes. (
  (c.in_ok-a.a, c.in_ok-b.b),
  (_, _, shape_2 c.args.args.now _ (omega arith), c.in_ok-a.ensures, c.in_ok-b.ensures),
  ap Order (makes c.in_ok-a.a c.in_ok-b.b c.make.result c.make.ensures),
)
