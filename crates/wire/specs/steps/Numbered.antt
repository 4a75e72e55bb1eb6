-- The entries of a file by their numbers.
use Rattle.std.specs.Prelude.{ℕ, List, take, drop}
use Rattle.policy.specs.declared.entry.Entry.{Entry}
use Rattle.wire.specs.Format.{record_size, version_in, place_in, entry_at}

-- entry number i of a file, and the bytes of its record
abbrev pub entry_in : List ℕ → ℕ → Entry
entry_in s i = entry_at (version_in s) s (place_in s i)

abbrev pub record_in : List ℕ → ℕ → List ℕ
record_in s i = take (record_size (version_in s)) (drop (place_in s i) s)
