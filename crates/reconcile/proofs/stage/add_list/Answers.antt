-- The first list is offered, a next one crossed.
-- Assumes nothing.
use borrow.Author.Rules.{rules}
use Rattle.reconcile.proofs.Staging.{added_first, added_next}
use Rattle.reconcile.proofs.stage.add_list.Goals as goal

pub returns-in-None : goal.returns-in-None
returns-in-None c = search (added_first, rules)

pub returns-in-Some : goal.returns-in-Some
returns-in-Some c = search (added_next, rules)
