-- A direction by itself.
use Rattle.std.specs.Prelude.{ℕ, Bool, ◌||◌, ltb}

-- from low to high: its low is above its high, or an end is above 1
abbrev pub direction_crossed : ℕ → ℕ → Bool
direction_crossed low high = ltb high low || (ltb 1 low || ltb 1 high)
