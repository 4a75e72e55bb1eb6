-- No entry before i matches the header.
use Rattle.lookup.proofs.TableLookup.{TablePassed}
use Rattle.lookup.proofs.table.lookup_table.Given as goal

abbrev pub invariant-loop-i : goal.invariant-loop-i
invariant-loop-i l = TablePassed l.table l.h l.i
