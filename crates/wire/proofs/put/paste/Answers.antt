use native.Mathlib.Omega.{arith}
use Prim.Native.Nat.{◌+◌}
use lib.ListN.{set}
use mathlib.Core.Path.{ap₂, ◌∙◌}
use Rattle.std.proofs.lemmas.List.Edits.{paste_more}
use Rattle.wire.proofs.put.paste.Goals as goal

pub loop-i-preserved : goal.loop-i-preserved
loop-i-preserved g c =
    let a = c.args in
    let i = c.loop-i.i in
    let x = c.index-values-i in
    ap₂ (λ b y. set b (a.at + i) y) c.loop-i.invariant x.is ∙ paste_more a.buffer.now a.at a.values.now i x.result (omega arith) (omega arith)
