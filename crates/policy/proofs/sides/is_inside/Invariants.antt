-- Every number passed lies in the box.
use Rattle.policy.proofs.Every.{Passed}
use Rattle.policy.proofs.Loops.{inside_at}
use Rattle.policy.proofs.sides.is_inside.Given as goal

abbrev pub invariant-loop-f : goal.invariant-loop-f
invariant-loop-f l = Passed (inside_at l.b l.x) l.f
