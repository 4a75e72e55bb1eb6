-- The bench's value: what its slots hold, for every value whatever.
use Rattle.std.specs.Prelude.{ℕ, ◌-◌, min, cond, List, ◌++◌, map, eqb, length, take, set, replicate, None, Option, Some}
use Rattle.policy.specs.declared.entry.Entry.{Entry}
use Rattle.wire.specs.Format.{merged_version, filed_limit, file_size, records_in, entries_from}
use Rattle.bench.specs.declared.slots.Slot.{Slot}
use Rattle.bench.specs.declared.calls.Bench.{Bench}
use Rattle.bench.specs.Book.{parties, Book}

-- the length of the longest filed file
abbrev pub slot_size : ℕ
slot_size = file_size merged_version filed_limit

abbrev pub vacant_slot : Slot
vacant_slot = record { bytes = replicate slot_size 0; length = 0 }

-- a slot that holds a file
abbrev pub slot_with : List ℕ → Slot
slot_with s = record { bytes = s ++ replicate (slot_size - length s) 0; length = length s }

-- the file that a slot holds
abbrev pub bytes_in : Slot → List ℕ
bytes_in s = take s.length s.bytes

-- the entries of its file, as many as there are, and no more than a filed list has
abbrev pub slot_list : Slot → List Entry
slot_list s = entries_from (bytes_in s) 0 (min (records_in (bytes_in s)) filed_limit)

-- the list that a slot has in force
abbrev pub list_in_slot : Slot → Option (List Entry)
list_in_slot s = cond (eqb s.length 0) None (Some (slot_list s))

abbrev pub book_of : Bench → Book
book_of b = map list_in_slot b.slots

abbrev pub open_bench : Bench
open_bench = record { slots = replicate parties vacant_slot }

-- the bench with a slot for the party put in place
abbrev pub with_slot : Bench → ℕ → Slot → Bench
with_slot b p s = record { slots = set b.slots (p - 1) s }
