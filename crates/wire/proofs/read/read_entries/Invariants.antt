-- After i turns the first i places hold the first i records, and the others are empty.
use mathlib.Core.Path.{◌≡◌}
use Rattle.wire.proofs.Lists.{firsts}
use Rattle.wire.proofs.read.read_entries.Given as goal

abbrev pub invariant-loop-i : goal.invariant-loop-i
invariant-loop-i l = l.entries ≡ firsts l.file l.i
