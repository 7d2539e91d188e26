use Rattle.worked_lines.proofs.theorems.run_lines_hold.Goals as goal
use Rattle.worked_lines.proofs.WorkedLines.{runs}

pub returns : goal.returns
returns c = runs
