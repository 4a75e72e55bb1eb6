-- What is left out, by whether the ports are 0 somewhere and whether a protocol has ports.
use Rattle.std.proofs.Common.{rules}
use Rattle.region.proofs.Narrowing.{code_none, code_listed, code_whole, code_bare}
use Rattle.region.proofs.headers.narrow_to_headers.Goals as goal

pub returns-then-r : goal.returns-then-r
returns-then-r c = (search rules, search (code_none, rules))

pub returns-then-needs_ports : goal.returns-then-needs_ports
returns-then-needs_ports c = (search rules, search (code_listed, rules))

pub returns-then-r-2 : goal.returns-then-r-2
returns-then-r-2 c = (search rules, search (code_whole, rules))

pub returns : goal.returns
returns c = (search rules, search (code_bare, rules))
