-- The texts of the first line, then the records.
use Rattle.report.proofs.Buffer.{more}
use Rattle.report.proofs.page.Page.put_merged.Goals as goal

pub returns : goal.returns
returns c = more c.put_records.ensures (more c.put-2.ensures (more c.put_decimal.ensures c.put.ensures))
