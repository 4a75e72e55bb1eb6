-- From the last field down: the one found so far, if s ends before b in any from f on.
use Rattle.region.proofs.Fields.{NextFrom}
use Rattle.region.proofs.cut.next_field.Given as goal

abbrev pub invariant-loop-f : goal.invariant-loop-f
invariant-loop-f l = NextFrom l.b l.s l.f-counter l.best
