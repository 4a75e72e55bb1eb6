-- By the two cases of a finding.
use Rattle.region.proofs.Catching.{sooner_at, sooner_none}
use Rattle.region.proofs.treated.is_sooner.Goals as goal

pub returns-in-Some : goal.returns-in-Some
returns-in-Some c = search sooner_at

pub returns-in-None : goal.returns-in-None
returns-in-None c = search sooner_none
