-- None holds the corner, one does, or the choice decides.
use Rattle.policy.specs.Sides.{box_of}
use Rattle.region.proofs.Choosing.{number_held}
use Rattle.region.proofs.pick.pick_of_one.Goals as goal

pub returns-then-is_none : goal.returns-then-is_none
returns-then-is_none c =
    let h = rw c.in-Some.is at c.requires in
    number_held c.args.s.now (box_of c.args.x.now 0) _ h.0 h.1.0
