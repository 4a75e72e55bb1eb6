-- An entry that is needless goes, and any other moves to those that are left.
-- Assumes nothing.
use borrow.Author.Rules.{rules}
use Rattle.reconcile.proofs.Finishing.{examined_none, pass_struck, pass_kept, examined_all}
use Rattle.reconcile.proofs.strike.strike_entries.Goals as goal

pub loop-k-init : goal.loop-k-init
loop-k-init c = search examined_none

pub loop-k-preserved : goal.loop-k-preserved
loop-k-preserved c = search pass_struck

pub loop-k-preserved-then-not-is_needless : goal.loop-k-preserved-then-not-is_needless
loop-k-preserved-then-not-is_needless c = search (pass_kept, rules)

pub returns : goal.returns
returns c = examined_all c.args.entries.now c.loop-k.entries c.loop-k.rows c.loop-k.top c.loop-k.k c.loop-k.invariant c.loop-k-test.false
