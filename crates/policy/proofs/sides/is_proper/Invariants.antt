-- No field passed is crossed.
use Rattle.policy.proofs.Every.{Passed}
use Rattle.policy.proofs.Loops.{proper_at}
use Rattle.policy.proofs.sides.is_proper.Given as goal

abbrev pub invariant-loop-f : goal.invariant-loop-f
invariant-loop-f l = Passed (proper_at l.b) l.f
