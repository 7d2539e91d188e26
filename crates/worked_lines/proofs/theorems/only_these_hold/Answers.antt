use Rattle.worked_lines.proofs.theorems.only_these_hold.Goals as goal
use Rattle.worked_lines.proofs.WorkedLines.{only_these}

pub returns : goal.returns
returns c = only_these
