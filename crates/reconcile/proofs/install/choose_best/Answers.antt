-- Each entry is chosen in its place.
-- Assumes nothing.
use Rattle.reconcile.proofs.Choosing.{chosen_more, chosen_all}
use Rattle.reconcile.proofs.install.choose_best.Goals as goal

pub loop-e-preserved : goal.loop-e-preserved
loop-e-preserved c = search chosen_more

pub returns : goal.returns
returns c = search chosen_all
