-- The last entry has every header.
use Rattle.region.proofs.ListChecks.{closed_by_all}
use Rattle.wire.proofs.Sizes.{last_there}
use Rattle.region.proofs.covering.ends_with_all.Goals as goal

pub entry_is_all-requires : goal.entry_is_all-requires
entry_is_all-requires c = search last_there

pub returns : goal.returns
returns c = search closed_by_all
