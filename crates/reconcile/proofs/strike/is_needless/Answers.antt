-- The search finds a header exactly if the list without the entry differs.
-- Assumes nothing.
use borrow.Author.Rules.{rules}
use Rattle.reconcile.proofs.Finishing.{needless_found}
use Rattle.reconcile.proofs.strike.is_needless.Goals as goal

pub returns : goal.returns
returns c = search (needless_found, rules)
