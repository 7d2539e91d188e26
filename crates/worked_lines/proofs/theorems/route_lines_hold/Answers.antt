use Rattle.worked_lines.proofs.theorems.route_lines_hold.Goals as goal
use Rattle.worked_lines.proofs.WorkedLines.{routes_and_sets}

pub returns : goal.returns
returns c = routes_and_sets
