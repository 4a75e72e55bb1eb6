-- By the two cases of a finding.
use Rattle.region.proofs.ListChecks.{gap_refuses, gap_passes}
use Rattle.region.proofs.covering.gap_checked.Goals as goal

pub returns-in-Some : goal.returns-in-Some
returns-in-Some c = search gap_refuses

pub returns-in-None : goal.returns-in-None
returns-in-None c = search gap_passes
