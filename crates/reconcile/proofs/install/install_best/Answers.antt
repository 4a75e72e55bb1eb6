-- The chosen entries are struck again.
-- Assumes nothing.
use mathlib.Core.Path.{◌∙◌, ap}
use Rattle.policy.specs.Header.{headers}
use Rattle.reconcile.specs.Rules.{struck}
use Rattle.reconcile.proofs.install.install_best.Goals as goal

pub returns : goal.returns
returns c = (c.strike_entries.ensures.0, c.strike_entries.ensures.1 ∙ ap (struck headers) c.choose_best.ensures)
