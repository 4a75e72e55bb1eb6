-- The high of one field is lowered to the end of the other box.
use Rattle.region.proofs.Fields.{lowered_high}
use Rattle.std.proofs.Common.{rules}
use Rattle.region.proofs.cut.keep_up_to.Goals as goal

pub returns : goal.returns
returns c = (search rules, search (lowered_high, rules))
