use Rattle.worked_lines.proofs.theorems.worked_lines_hold.Goals as goal
use Rattle.worked_lines.proofs.WorkedLines.{worked_lines}

pub returns : goal.returns
returns c = worked_lines
