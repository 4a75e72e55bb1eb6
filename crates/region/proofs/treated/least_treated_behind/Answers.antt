-- Either front leaves nothing of the box, or it is searched.
use Rattle.policy.specs.Header.{headers}
use Rattle.policy.specs.Sides.{box_of}
use Rattle.policy.specs.steps.Rows.{rows_in}
use Rattle.region.proofs.Judging.{front_exhausts}
use Rattle.region.proofs.treated.least_treated_behind.Goals as goal

pub returns-then-is_exhausted : goal.returns-then-is_exhausted
returns-then-is_exhausted c =
    let a = c.args in
    front_exhausts headers (box_of a.x.now 0) a.q a.uncaught (rows_in a.front.now) (rows_in a.rows.now) a.best _ c.if-is_exhausted.true c.is_exhausted.ensures
