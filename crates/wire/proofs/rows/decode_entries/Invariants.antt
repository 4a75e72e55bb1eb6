-- After i turns the first i rows are the first i entries.
use Rattle.wire.specs.Format.{entries_from}
use Rattle.wire.proofs.PutRows.{Put}
use Rattle.wire.proofs.rows.decode_entries.Given as goal

abbrev pub invariant-loop-i : goal.invariant-loop-i
invariant-loop-i l = Put l.initial.rows (entries_from l.file l.from l.i) l.rows
