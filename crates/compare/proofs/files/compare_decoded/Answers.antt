-- A refusal is said of its file; where both pass, the excess of the decoded lists decides.
-- Assumes nothing.
use Rattle.region.proofs.ListChecks.{rows_decoded}
use Rattle.compare.proofs.Rows.{first_refused, second_covers, second_refused, both_good}
use Rattle.compare.proofs.files.compare_decoded.Goals as goal

pub least_excess-requires : goal.least_excess-requires
least_excess-requires c = search (second_covers, rows_decoded)

pub returns-in-Err : goal.returns-in-Err
returns-in-Err c = search first_refused

pub returns-in-Err-check_rows : goal.returns-in-Err-check_rows
returns-in-Err-check_rows c = search second_refused

pub returns : goal.returns
returns c = search (both_good, rows_decoded)
