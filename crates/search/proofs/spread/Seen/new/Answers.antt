use Rattle.search.proofs.Rolled.{roll_new}
use Rattle.search.proofs.spread.Seen.new.Goals as goal

pub invariant_of-result : goal.invariant_of-result
invariant_of-result c = record { roll = roll_new c.args.root c.requires }
