-- The texts of the line, each behind the last.
use Rattle.std.proofs.Common.{ap}
use Rattle.report.specs.Text.{decimal}
use Rattle.report.proofs.Buffer.{more, same}
use Rattle.report.proofs.page.Page.put_refused.Goals as goal

pub returns : goal.returns
returns c =
    more c.put-3.ensures
    (more c.put_detail.ensures
    (more (same c.put_decimal-2.ensures (ap decimal c.number.ensures))
    (more c.put-2.ensures (more c.put_decimal.ensures c.put.ensures))))
