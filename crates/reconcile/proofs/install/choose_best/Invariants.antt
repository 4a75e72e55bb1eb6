-- The entries before the next one have been chosen.
-- Assumes nothing.
use Rattle.reconcile.proofs.Choosing.{Chosen}
use Rattle.reconcile.proofs.install.choose_best.Given as goal

abbrev pub invariant-loop-e : goal.invariant-loop-e
invariant-loop-e l = Chosen l.ranking.numbers.now l.initial.entries l.entries l.e-index
