-- A byte's two digits behind those of the bytes passed.
use Rattle.std.proofs.lemmas.List.{take_more}
use Rattle.report.proofs.Buffer.{more}
use Rattle.report.proofs.Digits.{hex_append}
use Rattle.report.proofs.page.Page.put_hex.Goals as goal

pub loop-b-preserved : goal.loop-b-preserved
loop-b-preserved c =
    rw (take_more _ c.loop-b.b-index 0 c.loop-b-test.true, hex_append, ← c.digit.ensures, ← c.digit-in-loop-b.ensures)
    (more (more c.put_byte-in-loop-b.ensures c.put_byte.ensures) c.loop-b.invariant)
