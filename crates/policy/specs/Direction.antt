-- Which boxes and selectors count as crossed (01, "What is turned down"; 02, Wish 4).
use Rattle.std.specs.Prelude.{Bool, not, ◌||◌, ltb}
use Rattle.policy.specs.Box.{Range, proper}
use Rattle.policy.specs.Header.{arity, Box}

-- the range of the direction
abbrev pub directions : Box → Range
directions b = b.1.1.1.1.1.0

-- a range has its low above its high, or an end of the direction is above 1
abbrev pub crossed_box : Box → Bool
crossed_box b = not (proper arity b) || (ltb 1 (directions b).low || ltb 1 (directions b).high)
