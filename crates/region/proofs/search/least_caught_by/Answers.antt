-- The part of the entry that those before it miss.
use Rattle.region.proofs.Searching.{found_caught_by, found_by_none}
use Rattle.wire.proofs.Sizes.{entry_there, before_there}
use Rattle.std.proofs.Common.{rules}
use Rattle.region.proofs.search.least_caught_by.Goals as goal

pub returns-then-n-k : goal.returns-then-n-k
returns-then-n-k c = search found_by_none

pub entry_in-requires : goal.entry_in-requires
entry_in-requires c = search entry_there

pub missed_by_first-requires : goal.missed_by_first-requires
missed_by_first-requires c = (search before_there, (search rules, search rules))

pub returns : goal.returns
returns c = search found_caught_by
