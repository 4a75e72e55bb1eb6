-- The box has no header.
use Rattle.region.proofs.Steps.{picked_none}
use Rattle.std.proofs.Common.{rules}
use Rattle.region.proofs.pick.pick_header.Goals as goal

pub returns-then-not-narrow_to_headers : goal.returns-then-not-narrow_to_headers
returns-then-not-narrow_to_headers c = (search rules, (search rules, search picked_none))
