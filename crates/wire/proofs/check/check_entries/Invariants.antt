-- Each turn asks one record. The first crossed entry is, as long as none was met, the first among those from i on.
-- Assumes nothing.
use Rattle.policy.specs.Entry.{crossed}
use Rattle.wire.specs.Format.{entries_from}
use Rattle.wire.proofs.Checks.{Scanned}
use Rattle.wire.proofs.check.check_entries.Given as goal

abbrev pub invariant-loop-i : goal.invariant-loop-i
invariant-loop-i l = Scanned crossed (entries_from l.file 0 l.n) l.i
