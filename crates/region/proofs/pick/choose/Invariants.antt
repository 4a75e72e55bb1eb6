-- From one row that holds the corner to the one before it; the best so far is a choice.
use Rattle.std.proofs.Common.{◌≡◌, ◌*◌, ◌/◌, ◌<◌, true, length}
use Rattle.policy.specs.steps.Boxes.{lows}
use Rattle.policy.specs.Header.{arity}
use Rattle.policy.specs.Sides.{box_of}
use Rattle.policy.specs.steps.Rows.{row_size}
use Rattle.region.specs.steps.Corner.{holds_corner, HoldsLast, Chooses}
use Rattle.region.proofs.pick.choose.Given as goal

abbrev pub invariant-loop-best : goal.invariant-loop-best
invariant-loop-best l =
    (l.i < length l.s / row_size)
    × (holds_corner (box_of l.s (row_size * l.i)) (box_of l.b 0) ≡ true)
    × HoldsLast l.s l.i (lows arity (box_of l.b 0)) l.next
    × Chooses l.s (box_of l.b 0) l.best.number l.best.covers

abbrev pub decreases-loop-best : goal.decreases-loop-best
decreases-loop-best l = l.i
