-- The protocols of a range that are listed, as the search narrows a box to its headers.
use Rattle.std.specs.Prelude.{ℕ, min, max, cond, List, [], ◌∷◌}
use Rattle.policy.specs.Box.{Range, range, within}

-- from the least to the greatest of those listed that lie in the range; crossed, if none does
abbrev pub narrowed : List ℕ → Range → Range
narrowed [] r = range 256 0
narrowed (q ∷ qs) r =
    cond (within r q) (range (min q (narrowed qs r).low) (max q (narrowed qs r).high)) (narrowed qs r)
