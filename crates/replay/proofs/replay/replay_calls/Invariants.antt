-- Each call takes some of the input.
use Rattle.std.proofs.Common.{length}
use Rattle.replay.proofs.replay.replay_calls.Given as goal

abbrev pub decreases-loop-input : goal.decreases-loop-input
decreases-loop-input g l = length l.input.left.now
