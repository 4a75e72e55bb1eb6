-- After the header of a conflict stand the entries that it names.
use Rattle.report.proofs.Buffer.{more}
use Rattle.report.proofs.page.Page.put_detail.Goals as goal

pub returns-in-Conflict : goal.returns-in-Conflict
returns-in-Conflict c = rw c.in-Conflict.is (more c.put_named.ensures c.put_header-in-Conflict.ensures)
