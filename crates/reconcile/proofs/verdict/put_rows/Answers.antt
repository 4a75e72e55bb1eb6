-- Each row is put behind the last.
-- Assumes nothing.
use borrow.Author.Rules.{rules}
use Rattle.reconcile.proofs.Beside.{beside_more, beside_all}
use Rattle.reconcile.proofs.verdict.put_rows.Goals as goal

pub loop-i-preserved : goal.loop-i-preserved
loop-i-preserved c = (search rules, search (beside_more, rules))

pub returns : goal.returns
returns c = search (beside_all, rules)
