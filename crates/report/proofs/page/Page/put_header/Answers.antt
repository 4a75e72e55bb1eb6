-- The space, then the digits of the header's bytes.
use Rattle.std.proofs.Common.{ap}
use Rattle.report.specs.Text.{hex}
use Rattle.report.proofs.Buffer.{more, same}
use Rattle.report.proofs.page.Page.put_header.Goals as goal

pub returns : goal.returns
returns c = more (same c.put_hex.ensures (ap hex c.header_bytes.ensures)) c.put.ensures
