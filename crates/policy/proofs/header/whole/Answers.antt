-- The sides are computed.
use mathlib.Core.Path.{refl}
use Rattle.policy.specs.Sides.{box_of}
use Rattle.policy.proofs.header.whole.Goals as goal

pub returns : goal.returns
unfolding box_of
returns c = refl
