use Rattle.std.proofs.Common.{refl}
use Rattle.report.proofs.Buffer.{byte}
use Rattle.report.proofs.page.Page.put_byte.Goals as goal

pub returns-then-self : goal.returns-then-self
returns-then-self c = record { buffer = refl; printed = byte _ _ _ c.if-self.true }
