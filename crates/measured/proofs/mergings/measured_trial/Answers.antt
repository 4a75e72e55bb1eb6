-- The bench is that of the filings; the answer has its number, and the buffer what the trial left in it.
-- Assumes nothing.
use Rattle.std.proofs.Common.{rules}
use Rattle.measured.proofs.Results.{handed}
use Rattle.measured.proofs.mergings.measured_trial.Goals as goal

pub returns : goal.returns
returns c = search (handed, rules)
