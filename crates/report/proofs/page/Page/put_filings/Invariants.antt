-- The records before what is left are filed, and their lines put.
use Rattle.std.proofs.Common.{length}
use Rattle.report.proofs.Progress.{Progress}
use Rattle.report.proofs.page.Page.put_filings.Given as goal

abbrev pub invariant-loop-left : goal.invariant-loop-left
invariant-loop-left l = Progress l.input l.initial.self l.self l.bench l.left

abbrev pub decreases-loop-left : goal.decreases-loop-left
decreases-loop-left l = length l.left
