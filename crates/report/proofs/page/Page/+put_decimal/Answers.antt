-- The last digit stands behind the number's tenth, or alone below 10.
use Rattle.std.proofs.Common.{arith}
use Rattle.report.proofs.Buffer.{more}
use Rattle.report.proofs.Digits.{only_digit, last_digit}
use Rattle.report.proofs.page.Page.+put_decimal.Goals as goal
use Rattle.report.proofs.page.Page.+put_decimal.Goals.{then-n-ge10, else-n-ge10}

pub returns : goal.returns
returns t c =
    elim c.if-n-ge10.branch [
      | then-n-ge10 w ↦ rw (last_digit c.args.n (omega arith), ← c.digit.ensures) (more (rw w.self-is at c.put_byte.ensures) w.put_decimal.ensures)
      | else-n-ge10 w ↦ rw (only_digit c.args.n (omega arith), ← c.digit.ensures) (rw w.self-is at c.put_byte.ensures)
    ]
