-- The end of the direction, or a range with its low above its high.
use Rattle.policy.proofs.Directions.{end_above, end_within}
use Rattle.policy.proofs.direction.is_crossed_box.Goals as goal

pub returns-then-high-gt1 : goal.returns-then-high-gt1
returns-then-high-gt1 c = search end_above

pub returns : goal.returns
returns c = search end_within
