-- Each turn tests one entry. No entry before i is crossed, and those fit their widths.
use lib.ListN.{take}
use Rattle.wire.specs.Writing.{crossed_in}
use Rattle.wire.specs.steps.Fits.{AllFit}
use Rattle.wire.proofs.Checks.{Scanned}
use Rattle.wire.proofs.write.check_held.Given as goal

abbrev pub invariant-loop-i : goal.invariant-loop-i
invariant-loop-i l = Scanned (crossed_in l.version) l.entries l.i × AllFit (take l.i l.entries)
