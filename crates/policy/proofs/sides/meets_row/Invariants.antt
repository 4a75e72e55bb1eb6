-- The common part is crossed in no field passed.
use Rattle.policy.proofs.Every.{Passed}
use Rattle.policy.proofs.Loops.{meets_at}
use Rattle.policy.proofs.sides.meets_row.Given as goal

abbrev pub invariant-loop-f : goal.invariant-loop-f
invariant-loop-f l = Passed (meets_at l.s l.at l.b) l.f
