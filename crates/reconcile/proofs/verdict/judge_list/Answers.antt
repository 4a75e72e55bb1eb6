-- A header without an action is a conflict.
-- Assumes nothing.
use borrow.Author.Rules.{rules}
use Rattle.reconcile.proofs.Judging.{judges_conflict, judges_merged}
use Rattle.reconcile.proofs.verdict.judge_list.Goals as goal

pub returns-in-Some : goal.returns-in-Some
returns-in-Some c =
    let put = c.put_rows.ensures in
    (judges_conflict _ c.args.entries.now _ put (search rules) c.least_conflict.ensures _ (search rules), put)

pub returns-in-None : goal.returns-in-None
returns-in-None c =
    let put = c.put_rows.ensures in
    (judges_merged _ c.args.entries.now _ put (search rules) c.least_conflict.ensures (search rules), put)
