-- The stage holds the lists of the slots so far.
-- Assumes nothing.
use Rattle.std.proofs.Common.{map, take}
use Rattle.reconcile.specs.steps.Stage.{stage_in}
use Rattle.bench.specs.Held.{list_in_slot}
use Rattle.bench.specs.steps.Staged.{Staged}
use Rattle.bench.proofs.slots.add_slots.Given as goal

abbrev pub invariant-loop-slot : goal.invariant-loop-slot
invariant-loop-slot l = Staged (take l.slot-index (map list_in_slot l.slot-items)) (stage_in l.stage)
