use Rattle.compare.proofs.TooMuch.{found_none, found_next, found_all}
use Rattle.compare.proofs.excess.least_excess.Goals as goal

pub loop-i-init : goal.loop-i-init
loop-i-init c = search found_none

pub loop-i-preserved : goal.loop-i-preserved
loop-i-preserved c = search found_next

pub returns : goal.returns
returns c = search found_all
