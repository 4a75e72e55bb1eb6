-- Row number i of the first list, or of the second.
use Rattle.std.proofs.Common.{arith}
use Rattle.region.proofs.Members.{length_two, row_first, row_second}
use Rattle.region.proofs.pick.row_of_two.Goals as goal

pub returns-then-i-n : goal.returns-then-i-n
returns-then-i-n c = search row_first

pub overflow_mul-i-2 : goal.overflow_mul-i-2
overflow_mul-i-2 c = omega (arith, length_two c.args.a.now c.args.b.now)

pub row_sides-requires-2 : goal.row_sides-requires-2
row_sides-requires-2 c = omega (arith, length_two c.args.a.now c.args.b.now)

pub returns : goal.returns
returns c = search row_second
