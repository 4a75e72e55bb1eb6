-- Boxes, as the search looks at them.
use Rattle.std.specs.Prelude.{ℕ, zero, suc, Bool, true, ◌&&◌, eqb, ltb}
use Rattle.policy.specs.Row.{Row}
use Rattle.policy.specs.Box.{Range}

-- the two have the same ranges
abbrev pub same_box : (k : ℕ) → Row Range k → Row Range k → Bool
same_box zero a b = true
same_box (suc k) a b = (eqb a.0.low b.0.low && eqb a.0.high b.0.high) && same_box k a.1 b.1

-- the low corner
abbrev pub lows : (k : ℕ) → Row Range k → Row ℕ k
lows zero b = tt
lows (suc k) b = (b.0.low, lows k b.1)

-- each number is below its size
abbrev pub fits : (k : ℕ) → Row ℕ k → Row ℕ k → Bool
fits zero ns x = true
fits (suc k) ns x = ltb x.0 ns.0 && fits k ns.1 x.1
