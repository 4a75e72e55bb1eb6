-- The sides of a box, as numbers: for each field of a header its low and its high.
use Rattle.std.specs.Prelude.{ℕ, zero, suc, ◌+◌, ◌*◌, List, get_or}
use Rattle.policy.specs.Row.{Row}
use Rattle.policy.specs.Box.{Range, range}
use Rattle.policy.specs.Header.{arity, Box}

-- what g says of each field
abbrev pub row_of : {A : Type 0} → (k : ℕ) → (ℕ → A) → Row A k
row_of zero g = tt
row_of (suc k) g = (g 0, row_of k λ j. g (suc j))

-- the range of field number j, of the sides from a place on
abbrev pub field : List ℕ → ℕ → ℕ → Range
field s at j = range (get_or s (2 * j + at) 0) (get_or s (2 * j + 1 + at) 0)

-- the box with these sides
unfoldable pub box_of : List ℕ → ℕ → Box
box_of s at = row_of arity (field s at)
