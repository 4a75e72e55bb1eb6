-- A box is cut where another ends in one field: the part up to there, and the part above.
use Rattle.std.specs.Prelude.{◌≡◌, ℕ, zero, suc, ◌<◌, min, true, List, length, Option, Some, None}
use Rattle.policy.specs.Row.{Row}
use Rattle.policy.specs.Box.{Range, range}
use Rattle.policy.specs.Header.{arity, Box}
use Rattle.policy.specs.Sides.{box_of}
use Rattle.policy.specs.steps.Rows.{sides}
use Rattle.region.specs.steps.Corner.{reaches}

-- the sides are those of the box
abbrev pub IsBox : List ℕ → Box → Type 0
IsBox r b = (length r ≡ sides) × (box_of r 0 ≡ b)

-- the part of the range b up to the end of s
abbrev pub up_to : Range → Range → Range
up_to b s = range b.low (min b.high s.high)

-- b, with field number f as g makes it of b's and s's
abbrev pub at_field : (Range → Range → Range) → (k f : ℕ) → Row Range k → Row Range k → Row Range k
at_field g zero f b s = tt
at_field g (suc k) zero b s = (g b.0 s.0, b.1)
at_field g (suc k) (suc f) b s = (b.0, at_field g k f b.1 s.1)

-- field number f of s ends before that of b
abbrev pub Short : (k f : ℕ) → Row Range k → Row Range k → Type 0
Short zero f b s = ⊥
Short (suc k) zero b s = s.0.high < b.0.high
Short (suc k) (suc f) b s = Short k f b.1 s.1

-- the number of a field in which s ends before b; or there is none
abbrev pub Next : Box → Box → Option ℕ → Type 0
Next b s (Some f) = (f < arity) × Short arity f b s
Next b s None = reaches arity s b ≡ true
