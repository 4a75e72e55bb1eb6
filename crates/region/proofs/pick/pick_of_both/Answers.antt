-- What is chosen of either list is picked of both.
use Rattle.policy.specs.Sides.{box_of}
use Rattle.policy.specs.steps.Rows.{rows_in}
use Rattle.region.proofs.Choosing.{covers_left, covers_right, picks_left, picks_behind, number_held}
use Rattle.region.proofs.pick.pick_of_both.Goals as goal

pub returns-then-c : goal.returns-then-c
returns-then-c c =
    let a = c.args in
    covers_left (rows_in a.a.now) (rows_in a.b.now) (box_of a.x.now 0) (c.choose-c.ensures.1.1 c.if-c.true)

pub returns-then-enough-c : goal.returns-then-enough-c
returns-then-enough-c c =
    let a = c.args in
    let d = c.choose-c.ensures in
    picks_left (rows_in a.a.now) (rows_in a.b.now) (box_of a.x.now 0) _ (number_held a.a.now (box_of a.x.now 0) _ d.0 d.1.0)

pub returns-then-d : goal.returns-then-d
returns-then-d c =
    let a = c.args in
    covers_right (rows_in a.a.now) (rows_in a.b.now) (box_of a.x.now 0) (c.choose-d.ensures.1.1 c.if-d.true)

pub returns-then-d-c : goal.returns-then-d-c
returns-then-d-c c =
    let a = c.args in
    let d = c.choose-c.ensures in
    picks_left (rows_in a.a.now) (rows_in a.b.now) (box_of a.x.now 0) _ (number_held a.a.now (box_of a.x.now 0) _ d.0 d.1.0)

pub returns : goal.returns
returns c =
    let a = c.args in
    let d = c.choose-d.ensures in
    picks_behind a.a.now a.b.now (box_of a.x.now 0) _ d.0 d.1.0
