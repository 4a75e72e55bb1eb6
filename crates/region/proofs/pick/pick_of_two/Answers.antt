-- The last row that holds the corner covers the box, or the lists that have one are asked.
use Rattle.std.proofs.Common.{◌/◌, length, sym, arith}
use Rattle.policy.specs.Sides.{box_of}
use Rattle.policy.specs.steps.Rows.{row_size, rows_in}
use Rattle.region.proofs.Choosing.{covers_left, covers_right, picks_first, picks_second, picked_few}
use Rattle.policy.proofs.Slices.{length_rows}
use Rattle.region.proofs.pick.pick_of_two.Goals as goal

pub returns-then-last_covers : goal.returns-then-last_covers
returns-then-last_covers c =
    let a = c.args in
    covers_left (rows_in a.a.now) (rows_in a.b.now) (box_of a.x.now 0) (c.last_covers.ensures c.if-last_covers.true)

pub returns-then-last_covers-2 : goal.returns-then-last_covers-2
returns-then-last_covers-2 c =
    let a = c.args in
    covers_right (rows_in a.a.now) (rows_in a.b.now) (box_of a.x.now 0) (c.last_covers-2.ensures c.if-last_covers-2.true)

pub returns-in_default : goal.returns-in_default
returns-in_default c =
    let a = c.args in
    picks_first (rows_in a.a.now) (rows_in a.b.now) (box_of a.x.now 0) c.pick_of_one.result c.pick_of_one.ensures c.in_default.ensures

pub picked_behind-requires : goal.picked_behind-requires
picked_behind-requires c =
    let a = c.args in
    omega (arith, picked_few (rows_in a.b.now) (box_of a.x.now 0) c.pick_heaviest-p.result c.pick_heaviest-p.ensures, length_rows a.b.now 0 (length a.b.now / row_size))

pub returns-in_default-i : goal.returns-in_default-i
returns-in_default-i c =
    let a = c.args in
    picks_second (rows_in a.a.now) (rows_in a.b.now) (box_of a.x.now 0) _ c.pick_heaviest-p.result _ (sym (length_rows a.a.now 0 (length a.a.now / row_size))) c.pick_heaviest-p.ensures c.in_default-i.ensures c.picked_behind.ensures
