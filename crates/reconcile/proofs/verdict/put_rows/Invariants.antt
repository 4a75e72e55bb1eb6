-- After i turns the first i rows are those of the first i entries.
-- Assumes nothing.
use Rattle.std.proofs.Common.{◌≤◌, ◌*◌, length}
use Rattle.policy.specs.steps.Rows.{row_size}
use Rattle.reconcile.proofs.Beside.{Beside}
use Rattle.reconcile.proofs.verdict.put_rows.Given as goal

abbrev pub invariant-loop-i : goal.invariant-loop-i
invariant-loop-i l = (row_size * length l.entries ≤ length l.rows) × Beside l.rows l.entries l.i
