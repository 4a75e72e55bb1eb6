use mathlib.Core.Path.{refl}
use native.Mathlib.Omega.{arith}
use Rattle.wire.proofs.Lists.{firsts_next, firsts_listed}
use Rattle.wire.proofs.read.read_entries.Goals as goal

pub loop-i-preserved : goal.loop-i-preserved
loop-i-preserved c = firsts_next c.args.file.now c.loop-i.entries _ c.loop-i.i (omega arith) c.entry_in.ensures c.loop-i.invariant

pub returns : goal.returns
returns c = firsts_listed c.args.file.now c.loop-i.entries c.args.n c.loop-i.i (omega arith) c.loop-i.invariant _ refl
