use Rattle.wire.proofs.Records.{fit_more}
use Rattle.wire.proofs.Checks.{scanned_next}
use Rattle.wire.proofs.write.check_held.Goals as goal

pub loop-i-preserved : goal.loop-i-preserved
loop-i-preserved c = search (scanned_next, fit_more)
