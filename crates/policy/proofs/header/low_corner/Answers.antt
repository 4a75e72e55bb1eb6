-- The corner fits the widths, so that its casts lose nothing.
use Rattle.policy.specs.Sides.{box_of}
use Rattle.policy.proofs.Corner.{low_fits}
use Rattle.policy.proofs.header.low_corner.Goals as goal

pub overflow_cast-result : goal.overflow_cast-result
overflow_cast-result c = search low_fits

pub overflow_cast-result-2 : goal.overflow_cast-result-2
overflow_cast-result-2 c = search low_fits

pub overflow_cast-result-3 : goal.overflow_cast-result-3
overflow_cast-result-3 c = search low_fits

pub overflow_cast-result-4 : goal.overflow_cast-result-4
overflow_cast-result-4 c = search low_fits

pub returns : goal.returns
unfolding box_of
returns c = cc
