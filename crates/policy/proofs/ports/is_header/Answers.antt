-- The direction is above 1; or a port is not 0, and the protocol decides; or both are.
use Rattle.policy.proofs.HeaderSet.{no_direction, by_local_port, by_remote_port, by_no_port}
use borrow.Author.Rules.{rules}
use Rattle.policy.proofs.ports.is_header.Goals as goal

pub returns-then-h-gt1 : goal.returns-then-h-gt1
returns-then-h-gt1 c = search no_direction

pub returns-then-h-ne0 : goal.returns-then-h-ne0
returns-then-h-ne0 c = search (by_local_port, rules)

pub returns-then-h-ne0-2 : goal.returns-then-h-ne0-2
returns-then-h-ne0-2 c = search (by_remote_port, rules)

pub returns : goal.returns
returns c = search (by_no_port, rules)
