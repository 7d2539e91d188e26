use Rattle.orders.proofs.Splitting.{splits_some, splits_one}
use Rattle.orders.proofs.reading.lines_split.Goals as goal

pub returns : goal.returns
returns c = record { some = splits_some; one = splits_one }
