-- The parts are of the size that the array has room for.
use Rattle.std.proofs.Common.{◌≡◌}
use Rattle.replay.specs.declared.input.TheConstants.{BUFFER_LIMIT}
use Rattle.replay.proofs.print.print_hex.Given as goal

abbrev pub invariant-loop-part : goal.invariant-loop-part
invariant-loop-part g l =
    l.part-iterator.size ≡ BUFFER_LIMIT
    × (goal.iterator-loop-part g).can_next l.part-iterator
    × (goal.iterator-loop-part g).is_finite l.part-iterator
