use Rattle.policy.proofs.Loops.{part_crossed, part_proper}
use Rattle.policy.proofs.sides.meets_row.Goals as goal

pub returns-then-min-max : goal.returns-then-min-max
returns-then-min-max c = search part_crossed

pub returns : goal.returns
returns c = search part_proper
