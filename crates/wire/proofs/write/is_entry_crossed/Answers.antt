-- The numbers of a parameter fit their bytes.
use borrow.Author.Rules.{rules}
use Rattle.wire.proofs.BothWays.{crossed_anyway, crossed_in_none, crossed_by_ways}
use Rattle.wire.proofs.Records.{fits_by}
use Rattle.wire.proofs.write.is_entry_crossed.Goals as goal

pub returns-then-is_crossed : goal.returns-then-is_crossed
returns-then-is_crossed c = (search crossed_anyway, search (fits_by, rules))

pub returns-then-version-eq1 : goal.returns-then-version-eq1
returns-then-version-eq1 c = (search crossed_by_ways, search (fits_by, rules))

pub returns-else-version-eq1 : goal.returns-else-version-eq1
returns-else-version-eq1 c = (search crossed_in_none, search (fits_by, rules))
