-- The bytes passed are put.
use Rattle.std.proofs.Common.{take}
use Rattle.report.specs.steps.Puts.{Puts}
use Rattle.report.proofs.page.Page.put.Given as goal

abbrev pub invariant-loop-b : goal.invariant-loop-b
invariant-loop-b l = Puts l.initial.self l.self (take l.b-index l.s)
