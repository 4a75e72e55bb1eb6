-- After the head, each turn puts one record after those before it.
use mathlib.Core.Path.{◌≡◌}
use lib.ListN.{length}
use Rattle.wire.specs.Writing.{placed}
use Rattle.wire.proofs.Writing.{begun}
use Rattle.wire.proofs.write.put_entries.Given as goal

abbrev pub invariant-loop-i : goal.invariant-loop-i
invariant-loop-i l = l.buffer ≡ placed (begun l.version (length l.entries) l.entries l.i) l.initial.buffer
