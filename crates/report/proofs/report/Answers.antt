-- The parts of the report, put one behind the other.
use Rattle.std.proofs.Common.{arith, rules}
use Rattle.report.proofs.Whole.{too_long_put, all_put, buffer_is, starts}
use Rattle.report.proofs.report.Goals as goal

pub returns-then-input-gt-INPUT_LIMIT : goal.returns-then-input-gt-INPUT_LIMIT
returns-then-input-gt-INPUT_LIMIT c =
    let p = too_long_put _ c.if-input-gt-INPUT_LIMIT.true c.put.ensures in
    record { printed = buffer_is c.args.input.now (search rules); whole = starts c.args.input.now (λ i. omega (arith, c.type_inv.input i)) (search rules) }

pub returns : goal.returns
returns c =
    let p = all_put _ _ c.if-input-gt-INPUT_LIMIT.false c.put_filings-bench.ensures.bench c.put_filings-bench.ensures.lines c.put_merging.ensures in
    record { printed = buffer_is c.args.input.now (search rules); whole = starts c.args.input.now (λ i. omega (arith, c.type_inv.input i)) (search rules) }
