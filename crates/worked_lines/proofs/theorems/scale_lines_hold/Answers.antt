use Rattle.worked_lines.proofs.theorems.scale_lines_hold.Goals as goal
use Rattle.worked_lines.proofs.WorkedLines.{scales}

pub returns : goal.returns
returns c = scales
