use Rattle.wire.proofs.PutRows.{entries_next, entries_all}
use Rattle.wire.proofs.rows.decode_entries.Goals as goal

pub loop-i-preserved : goal.loop-i-preserved
loop-i-preserved c = search entries_next

pub returns : goal.returns
returns c = search entries_all
