-- Each stage goes to its verdict.
-- Assumes nothing.
use borrow.Author.Rules.{rules}
use Rattle.reconcile.proofs.Judging.{judges_crowded, judges_list}
use Rattle.reconcile.proofs.verdict.judge_stage.Goals as goal

pub returns-then-s-gt-LIST_LIMIT : goal.returns-then-s-gt-LIST_LIMIT
returns-then-s-gt-LIST_LIMIT c = search (judges_crowded, rules)

pub returns : goal.returns
returns c = search (judges_list, rules)
