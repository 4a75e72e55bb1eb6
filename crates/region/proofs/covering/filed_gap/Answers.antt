-- The list has no gap, or its rows are searched.
use Rattle.std.proofs.Common.{sym}
use Rattle.region.proofs.covering.filed_gap.Goals as goal

pub returns-then-ends_with_all : goal.returns-then-ends_with_all
returns-then-ends_with_all c = sym (c.ends_with_all.ensures c.if-ends_with_all.true)
