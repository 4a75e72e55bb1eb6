-- Each answer has its number, and the buffer its bytes.
-- Assumes nothing.
use Rattle.std.proofs.Common.{◌∙◌}
use Rattle.measured.proofs.Results.{no_record, finds_none, finds, refuses}
use Rattle.measured.proofs.searches.measured_search.Goals as goal

pub returns-then-record-record_size : goal.returns-then-record-record_size
returns-then-record-record_size c = search no_record

pub returns-in-Ok-None : goal.returns-in-Ok-None
returns-in-Ok-None c = search finds_none

pub returns-in-Ok-Some : goal.returns-in-Ok-Some
returns-in-Ok-Some c = search finds

pub returns-in-Err : goal.returns-in-Err
returns-in-Err c = let n = c.from.ensures ∙ c.number.ensures in search refuses
