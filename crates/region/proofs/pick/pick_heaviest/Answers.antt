-- The choice decides.
use Rattle.policy.specs.Sides.{box_of}
use Rattle.region.proofs.Choosing.{number_held}
use Rattle.region.proofs.pick.pick_heaviest.Goals as goal

pub returns : goal.returns
returns c =
    let a = c.args in
    let d = c.choose-c.ensures in
    number_held a.s.now (box_of a.x.now 0) _ d.0 d.1.0
