-- Each entry takes its part off what is still to be found; what is left at the end is uncaught.
use Rattle.std.proofs.Common.{◌≡◌}
use Rattle.policy.specs.Header.{headers}
use Rattle.policy.specs.steps.Findings.{lesser}
use Rattle.policy.specs.Sides.{box_of}
use Rattle.policy.specs.steps.Rows.{rows_in}
use Rattle.region.specs.steps.Treated.{CaughtBefore}
use Rattle.region.proofs.Judging.{Left}
use Rattle.region.proofs.Uses.{left_in}
use Rattle.region.proofs.treated.least_treated.Given as goal

abbrev pub invariant-loop-i : goal.invariant-loop-i
invariant-loop-i l =
    (lesser (left_in headers (box_of l.x 0) l.q l.uncaught (rows_in l.front) (rows_in l.rows)) l.initial.found ≡ lesser (Left headers (box_of l.x 0) l.q l.uncaught (rows_in l.front) l.rows l.i) l.found)
    × CaughtBefore (rows_in l.rows) l.initial.found l.found l.by
