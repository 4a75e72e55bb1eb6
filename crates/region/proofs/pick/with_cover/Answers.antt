-- The row holds the low corner, and is asked whether it reaches every end.
use Rattle.region.proofs.Choosing.{choose_with_cover}
use Rattle.region.proofs.pick.with_cover.Goals as goal

pub returns : goal.returns
returns c = search choose_with_cover
