-- The pairs before the next one, in lexicographic order, have been offered, or passed where they have nothing in common.
-- Assumes nothing.
use Rattle.policy.specs.steps.Rows.{rows_in}
use Rattle.reconcile.proofs.Pairs.{pairs}
use Rattle.reconcile.proofs.Keeping.{Keeps}
use Rattle.reconcile.proofs.cross.cross_rows.Given as goal

abbrev pub invariant-loop-i : goal.invariant-loop-i
invariant-loop-i l = Keeps l.rows l.entries l.n (pairs l.kept (rows_in l.theirs) l.i 0)

abbrev pub invariant-loop-j : goal.invariant-loop-j
invariant-loop-j l = Keeps l.rows l.entries l.n (pairs l.kept (rows_in l.theirs) l.i l.j)
