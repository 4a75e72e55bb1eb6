use Rattle.wire.proofs.Checks.{record_crossed, record_passed, records_passed}
use Rattle.wire.proofs.check.check_entries.Goals as goal

pub returns-then-is_crossed : goal.returns-then-is_crossed
returns-then-is_crossed c = search record_crossed

pub loop-i-preserved : goal.loop-i-preserved
loop-i-preserved c = search record_passed

pub returns : goal.returns
returns c = search records_passed
