-- The texts of the line, each behind the last.
use Rattle.report.proofs.Buffer.{more}
use Rattle.report.proofs.page.Page.put_filed.Goals as goal

pub returns : goal.returns
returns c = more c.put-3.ensures (more c.put_decimal-2.ensures (more c.put-2.ensures (more c.put_decimal.ensures c.put.ensures)))
