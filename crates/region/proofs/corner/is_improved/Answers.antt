-- A header comes before a finding as its two cases say.
use Rattle.region.proofs.Opening.{improves_at}
use Rattle.region.proofs.corner.is_improved.Goals as goal

pub returns-in-Some : goal.returns-in-Some
returns-in-Some c = search improves_at
