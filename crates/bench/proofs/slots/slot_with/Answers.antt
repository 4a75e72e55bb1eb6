-- The file is pasted over zeros.
-- Assumes nothing.
use Rattle.bench.proofs.Slotting.{slot_made}
use Rattle.bench.proofs.slots.slot_with.Goals as goal

pub returns : goal.returns
returns c = slot_made c.args.file.now c.paste.new.buffer c.paste.ensures
