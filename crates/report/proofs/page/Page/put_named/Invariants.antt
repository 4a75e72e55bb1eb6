-- The parties passed are put.
use Rattle.std.proofs.Common.{take}
use Rattle.bench.specs.Answers.{named_from}
use Rattle.report.specs.steps.Puts.{Puts}
use Rattle.report.specs.Report.{entries_text}
use Rattle.report.proofs.page.Page.put_named.Given as goal

abbrev pub invariant-loop-i : goal.invariant-loop-i
invariant-loop-i l = Puts l.initial.self l.self (entries_text (named_from 1 (take l.i l.entry-items)))
