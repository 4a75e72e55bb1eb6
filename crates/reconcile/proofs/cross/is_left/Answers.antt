-- The search finds a header exactly if one is left.
-- Assumes nothing.
use Rattle.policy.specs.Sides.{box_of}
use Rattle.policy.specs.steps.Rows.{rows_in}
use Rattle.reconcile.proofs.Keeping.{left_found}
use Rattle.reconcile.proofs.cross.is_left.Goals as goal

pub returns : goal.returns
returns c = let a = c.args in search (left_found (rows_in a.rows.now) (box_of a.b.now 0))
