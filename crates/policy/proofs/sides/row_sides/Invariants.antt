-- Every field passed is the row's.
use Rattle.policy.specs.Sides.{field}
use Rattle.policy.proofs.Loops.{Filled}
use Rattle.policy.proofs.sides.row_sides.Given as goal

abbrev pub invariant-loop-f : goal.invariant-loop-f
invariant-loop-f l = Filled l.r (field l.s l.at) l.f
