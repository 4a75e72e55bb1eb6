-- Each answer has its number.
-- Assumes nothing.
use Rattle.std.proofs.Common.{◌∙◌}
use Rattle.measured.proofs.Results.{merge_counted, merge_refused}
use Rattle.measured.proofs.mergings.merge_number.Goals as goal

pub returns-in-Ok : goal.returns-in-Ok
returns-in-Ok c = search merge_counted

pub returns-in-Err : goal.returns-in-Err
returns-in-Err c = let n = c.from.ensures ∙ c.number.ensures in search merge_refused
