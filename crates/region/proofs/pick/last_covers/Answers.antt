-- It holds the low corner, and is asked whether it reaches every end.
use Rattle.std.proofs.Common.{sym, ◌∙◌}
use Rattle.policy.specs.Sides.{box_of}
use Rattle.region.proofs.Choosing.{last_covers}
use Rattle.region.proofs.pick.last_covers.Goals as goal

pub returns-in-Some : goal.returns-in-Some
returns-in-Some c =
    let h = rw c.in-Some.is at c.requires in
    λ e. last_covers c.args.s.now (box_of c.args.b.now 0) c.in-Some.i h (sym c.row_reaches.ensures ∙ e)
