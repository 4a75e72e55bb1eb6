-- The part of the record's size from its start on is the record (`record-lent`).
-- Assumes nothing.
use Rattle.lookup.proofs.FileLookup.{record_lent}
use Rattle.lookup.proofs.file.record_of.Goals as goal

pub returns : goal.returns
returns c = search record_lent
