-- Every field passed is the common part.
use Rattle.policy.specs.Box.{common}
use Rattle.policy.specs.Sides.{field}
use Rattle.policy.proofs.Loops.{Filled}
use Rattle.policy.proofs.sides.part_in_row.Given as goal

abbrev pub invariant-loop-f : goal.invariant-loop-f
invariant-loop-f l = Filled l.r (λ j. common (field l.b 0 j) (field l.s l.at j)) l.f
