-- Those from place k on are examined: what is left of them stands from place top on, and the entries before k as at the start.
-- Assumes nothing.
use Rattle.reconcile.proofs.Finishing.{Examined}
use Rattle.reconcile.proofs.strike.strike_entries.Given as goal

abbrev pub invariant-loop-k : goal.invariant-loop-k
invariant-loop-k l = Examined l.initial.entries l.n l.rows l.entries l.top l.k
