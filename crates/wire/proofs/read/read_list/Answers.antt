-- The records are the list of the file.
use Rattle.wire.proofs.Readings.{good_reading}
use Rattle.wire.proofs.read.read_list.Goals as goal

pub returns : goal.returns
returns c = search (good_reading, c.in_ok-n.was)
