-- What lookup promises of the part, for its length.
-- Assumes nothing.
use Rattle.measured.proofs.PartLength.{part_length}
use Rattle.measured.proofs.part.measured_part.Goals as goal

pub returns : goal.returns
returns c = search part_length
