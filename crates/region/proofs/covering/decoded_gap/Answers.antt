-- The list has no gap, or its rows are searched.
use Rattle.std.proofs.Common.{sym, arith, rules}
use Rattle.region.proofs.ListChecks.{decoded_lent, decoded_gap}
use Rattle.region.proofs.covering.decoded_gap.Goals as goal

pub returns-then-ends_with_all : goal.returns-then-ends_with_all
returns-then-ends_with_all c = (sym (c.ends_with_all.ensures c.if-ends_with_all.true), (omega arith, search rules))

pub returns : goal.returns
returns c = (search (decoded_gap, decoded_lent), (omega arith, search rules))
