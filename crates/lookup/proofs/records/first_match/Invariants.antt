-- Before each turn no record before the i-th matches h (`Passed`).
-- Assumes nothing.
use Rattle.lookup.proofs.PackedMatch.{Passed}
use Rattle.lookup.proofs.records.first_match.Given as goal

abbrev pub invariant-loop-i : goal.invariant-loop-i
invariant-loop-i l = Passed l.file l.n l.h l.i
