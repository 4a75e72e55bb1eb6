-- After j turns the first j entries have been offered.
-- Assumes nothing.
use Rattle.std.proofs.Common.{◌≤◌, take}
use Rattle.wire.specs.Format.{entries_from}
use Rattle.reconcile.proofs.Keeping.{Keeps}
use Rattle.reconcile.proofs.stage.first_list.Given as goal

abbrev pub invariant-loop-j : goal.invariant-loop-j
invariant-loop-j l = (l.n ≤ l.j) × Keeps l.rows l.entries l.n (take l.j (entries_from l.file 0 l.j-end))
