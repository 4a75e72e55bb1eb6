-- The header is the least that the list allows the empty set.
use Rattle.policy.specs.steps.Rows.{rows_in}
use Rattle.reconcile.proofs.Finishing.{conflict_search}
use Rattle.reconcile.proofs.strike.least_conflict.Goals as goal

pub returns : goal.returns
returns c = let s = c.args.rows.now in conflict_search s (rows_in s) _ _ c.whole-all.ensures c.least_treated.ensures.header
