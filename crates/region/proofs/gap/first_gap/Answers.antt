-- The box of every header leaves out none.
use Rattle.region.proofs.Everywhere.{least_gap}
use Rattle.region.proofs.gap.first_gap.Goals as goal

pub returns : goal.returns
returns c = search least_gap
