use Rattle.worked_lines.proofs.theorems.further_lines_hold.Goals as goal
use Rattle.worked_lines.proofs.WorkedLines.{further}

pub returns : goal.returns
returns c = further
