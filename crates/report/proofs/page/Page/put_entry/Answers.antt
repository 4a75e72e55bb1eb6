-- The space, then the number.
use Rattle.report.proofs.Buffer.{more}
use Rattle.report.proofs.page.Page.put_entry.Goals as goal

pub returns : goal.returns
returns c = more c.put_decimal.ensures c.put.ensures
