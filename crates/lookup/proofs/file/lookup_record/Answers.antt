-- The entry that was found has its record within the file (`record-fits`), which is the part that lookup hands back (`record-part`); otherwise it is the part of length zero (`nothing_lent`).
-- Assumes nothing.
use Rattle.lookup.proofs.FileLookup.{record_fits, record_part_lem, passed_on, nothing_lent, uncaught_part, refused_part}
use Rattle.lookup.proofs.file.lookup_record.Goals as goal

pub record_of-requires : goal.record_of-requires
record_of-requires c = search record_fits

pub returns-in-Ok-Some : goal.returns-in-Ok-Some
returns-in-Ok-Some c = search (passed_on, record_part_lem)

pub returns-in-Ok-None : goal.returns-in-Ok-None
returns-in-Ok-None c = search (nothing_lent, uncaught_part)

pub returns-in-Err : goal.returns-in-Err
returns-in-Err c = search (nothing_lent, refused_part)
