-- The actions are the best-ranked one, and the selector stays.
use mathlib.Core.Path.{ap}
use Rattle.policy.specs.Entry.{selector, entry}
use Rattle.reconcile.proofs.install.with_best.Goals as goal

pub returns : goal.returns
returns c = ap (entry (selector c.args.e)) c.best_of.ensures
