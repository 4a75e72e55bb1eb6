-- From the last row to the first that holds the corner; none passed does.
use Rattle.policy.specs.Header.{arity}
use Rattle.policy.specs.steps.Boxes.{lows}
use Rattle.policy.specs.Sides.{box_of}
use Rattle.region.proofs.Choosing.{Passed}
use Rattle.region.proofs.pick.last_holding.Given as goal

abbrev pub invariant-loop-i : goal.invariant-loop-i
invariant-loop-i l = Passed l.s l.n (lows arity (box_of l.b 0)) l.i
