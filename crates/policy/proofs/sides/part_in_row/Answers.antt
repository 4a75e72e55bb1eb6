use Rattle.policy.proofs.Loops.{filled_part}
use Rattle.policy.proofs.sides.part_in_row.Goals as goal

pub returns : goal.returns
returns c = search filled_part
