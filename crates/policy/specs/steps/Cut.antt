-- What a selector leaves of a box, as smaller boxes. An empty piece is a crossed one. The search cuts off one piece at a time, the part above.
use Rattle.std.specs.Prelude.{ℕ, zero, suc, ◌+◌, ◌-◌, min, max, cond, List, [], ◌∷◌, map, ltb}
use Rattle.policy.specs.Row.{Row}
use Rattle.policy.specs.Box.{Range, range, common}

-- a range that holds nothing
abbrev pub empty : Range
empty = range 1 0

-- the part of the range b below s, and the part above it
abbrev pub below : Range → Range → Range
below b s = cond (ltb b.low s.low) (range b.low (min b.high (s.low - 1))) empty

abbrev pub above : Range → Range → Range
above b s = cond (ltb s.high b.high) (range (max b.low (s.high + 1)) b.high) empty

-- the pieces of b outside s: below and above s in the first field; and inside s in it, and outside s in the others
abbrev pub cut : (k : ℕ) → Row Range k → Row Range k → List (Row Range k)
cut zero b s = []
cut (suc k) b s =
    (below b.0 s.0, b.1) ∷ (above b.0 s.0, b.1) ∷ map (λ r. (common b.0 s.0, r)) (cut k b.1 s.1)
