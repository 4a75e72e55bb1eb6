-- What is found does not come before best.
use Rattle.region.proofs.Catching.{exhausted_by}
use Rattle.region.proofs.treated.is_exhausted.Goals as goal

pub returns : goal.returns
returns c = λ e. search exhausted_by
