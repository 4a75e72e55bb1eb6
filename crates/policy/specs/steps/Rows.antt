-- Rows of numbers, as lists are searched: for each field of a header its low and its high, and then the action set.
use Rattle.std.specs.Prelude.{ℕ, zero, suc, ◌+◌, ◌*◌, ◌/◌, List, [], ◌∷◌, ◌++◌, get_or, length}
use Rattle.policy.specs.declared.entry.Entry.{Entry}
use Rattle.policy.specs.Row.{Row}
use Rattle.policy.specs.Header.{arity}
use Rattle.policy.specs.Entry.{entry}
use Rattle.policy.specs.Sides.{box_of, row_of}

-- the sides of a box, and the numbers of a row
abbrev pub sides : ℕ
sides = 2 * arity

abbrev pub row_size : ℕ
row_size = sides + 1

-- the numbers of a header, one for each field
abbrev pub numbers_in : List ℕ → Row ℕ arity
numbers_in x = row_of arity λ j. get_or x j 0

-- the row at a place, as an entry
abbrev pub row_at : List ℕ → ℕ → Entry
row_at s at = entry (box_of s at) (get_or s (at + sides) 0)

-- the n rows from a place on
abbrev pub rows_from : List ℕ → ℕ → ℕ → List Entry
rows_from s at zero = []
rows_from s at (suc n) = row_at s at ∷ rows_from s (at + row_size) n

-- the whole rows of a slice
abbrev pub rows_in : List ℕ → List Entry
rows_in s = rows_from s 0 (length s / row_size)

-- an entry's row
abbrev pub numbers_of : Entry → List ℕ
numbers_of e =
    e.local_low ∷ e.local_high ∷ e.remote_low ∷ e.remote_high
    ∷ e.local_port_low ∷ e.local_port_high ∷ e.remote_port_low ∷ e.remote_port_high
    ∷ e.protocol_low ∷ e.protocol_high ∷ e.direction_low ∷ e.direction_high ∷ e.actions ∷ []

-- the rows of a list, one after the other
abbrev pub all_numbers : List Entry → List ℕ
all_numbers [] = []
all_numbers (e ∷ es) = numbers_of e ++ all_numbers es
