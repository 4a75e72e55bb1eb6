-- The entries have one set, or the list is searched in an array of either size.
use Rattle.region.proofs.OneSet.{differs_if_missed}
use Rattle.region.proofs.differing.least_differing.Goals as goal

pub returns-then-is_one_set : goal.returns-then-is_one_set
returns-then-is_one_set c = search differs_if_missed
