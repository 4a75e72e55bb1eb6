-- The sides of the entry's row.
use mathlib.Core.Path.{◌∙◌}
use Rattle.policy.proofs.Numbers.{row_selector}
use Rattle.policy.proofs.entry.sides_of.Goals as goal

pub returns : goal.returns
returns c = c.row_sides.ensures ∙ search row_selector
