use Rattle.policy.proofs.Loops.{side_crossed, sides_proper}
use Rattle.policy.proofs.sides.is_proper.Goals as goal

pub returns-then-high-low : goal.returns-then-high-low
returns-then-high-low c = search side_crossed

pub returns : goal.returns
returns c = search sides_proper
