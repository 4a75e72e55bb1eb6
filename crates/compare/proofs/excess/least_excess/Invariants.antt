-- What was found, with what the rows left can add, is the answer all along (`found-next`); at the end nothing is left.
-- Assumes nothing.
use Rattle.compare.proofs.TooMuch.{FoundUpTo}
use Rattle.compare.proofs.excess.least_excess.Given as goal

abbrev pub invariant-loop-i : goal.invariant-loop-i
invariant-loop-i l = FoundUpTo l.first l.second l.found l.i
