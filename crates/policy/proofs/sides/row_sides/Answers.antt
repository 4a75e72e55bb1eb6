use Rattle.policy.proofs.Loops.{filled_row}
use Rattle.policy.proofs.sides.row_sides.Goals as goal

pub returns : goal.returns
returns c = search filled_row
