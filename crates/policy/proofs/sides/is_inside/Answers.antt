use Rattle.policy.proofs.Loops.{number_below, number_above, numbers_lie}
use Rattle.policy.proofs.sides.is_inside.Goals as goal

-- the number is below the low of its field
pub returns-then-x-f : goal.returns-then-x-f
returns-then-x-f c = search number_below

-- it is above the high
pub returns-then-high-x : goal.returns-then-high-x
returns-then-high-x c = search number_above

pub returns : goal.returns
returns c = search numbers_lie
