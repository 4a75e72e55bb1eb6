-- The first i parties are named.
-- Assumes nothing.
use Rattle.bench.proofs.Naming.{NamesFirst}
use Rattle.bench.proofs.named.name_catchers.Given as goal

abbrev pub invariant-loop-i : goal.invariant-loop-i
invariant-loop-i l = NamesFirst l.slot-items l.h l.named l.i
