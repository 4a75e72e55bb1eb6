-- After i turns the first i values are copied.
use lib.Seq.{paste}
use mathlib.Core.Path.{◌≡◌}
use Rattle.wire.proofs.put.paste.Given as goal

abbrev pub invariant-loop-i : goal.invariant-loop-i
invariant-loop-i g l = l.buffer ≡ paste l.initial.buffer l.at l.values l.i
