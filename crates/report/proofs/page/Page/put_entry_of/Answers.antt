-- The texts of the entry, each behind the last.
use Rattle.std.proofs.Common.{sym}
use mathlib.Core.List.{append-nil}
use Rattle.report.proofs.Buffer.{more, same}
use Rattle.report.proofs.page.Page.put_entry_of.Goals as goal

pub returns-in-Some : goal.returns-in-Some
returns-in-Some c =
    rw c.in-Some.is
    (same (more c.put_decimal-in-Some.ensures (more c.put-in-Some.ensures (more c.put_decimal.ensures c.put.ensures))) (sym (append-nil _)))
