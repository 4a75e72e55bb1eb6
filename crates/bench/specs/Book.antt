-- The book (01, "The bench"): a slot for each party, with the list in force.
use Rattle.std.specs.Prelude.{ℕ, List, [], ◌∷◌, replicate, None, Option, Some}
use Rattle.policy.specs.declared.entry.Entry.{Entry}

-- how many parties there are
abbrev pub parties : ℕ
parties = 8

abbrev pub Book : Type 0
Book = List (Option (List Entry))

-- at the opening
abbrev pub empty_book : Book
empty_book = replicate parties None

-- the lists in force, in rising number of their parties
abbrev pub in_force : Book → List (List Entry)
in_force [] = []
in_force (None ∷ k) = in_force k
in_force (Some p ∷ k) = p ∷ in_force k
