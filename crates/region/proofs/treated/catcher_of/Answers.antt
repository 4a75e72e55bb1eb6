-- The newer one, if its header comes before.
use Rattle.region.proofs.Catching.{newer_caught, older_caught}
use Rattle.region.proofs.treated.catcher_of.Goals as goal

pub returns-then-is_sooner : goal.returns-then-is_sooner
returns-then-is_sooner c = search newer_caught

pub returns : goal.returns
returns c = search older_caught
