-- The numbers agree in every field passed.
use Rattle.policy.proofs.Every.{Passed}
use Rattle.policy.proofs.Loops.{agree_at}
use Rattle.policy.proofs.sides.precede.Given as goal

abbrev pub invariant-loop-f : goal.invariant-loop-f
invariant-loop-f l = Passed (agree_at l.x l.y) l.f
