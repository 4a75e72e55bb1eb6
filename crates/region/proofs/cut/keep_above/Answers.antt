-- The low of one field is raised past the end of the other box.
use Rattle.region.proofs.Fields.{end_below, raised_low}
use Rattle.std.proofs.Common.{rules}
use Rattle.region.proofs.cut.keep_above.Goals as goal

pub next_number-requires : goal.next_number-requires
next_number-requires c = search end_below

pub returns : goal.returns
returns c = (search rules, search (raised_low, rules))
