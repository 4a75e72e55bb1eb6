-- Each turn puts the next record.
use Rattle.wire.proofs.Writing.{begun_next}
use Rattle.wire.proofs.write.put_entries.Goals as goal

pub loop-i-preserved : goal.loop-i-preserved
loop-i-preserved c = search begun_next
