-- Eight vacant slots.
-- Assumes nothing.
use Rattle.bench.proofs.Calling.{opened}
use Rattle.bench.proofs.calls.Bench.open.Goals as goal

pub returns : goal.returns
returns c = let k = opened c.vacant_slot-vacant.result c.vacant_slot-vacant.ensures in record { empty = k.0; traced = k.1 }
