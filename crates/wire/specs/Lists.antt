-- Lists of unpacked entries, and reading a file into one (01, "The file").
use Rattle.std.specs.Prelude.{ℕ, ◌-◌, List, [], ◌++◌, Result, Ok, Err, length, take, replicate}
use Rattle.policy.specs.declared.entry.Entry.{Entry}
use Rattle.policy.specs.declared.refusal.Refusal.{Refusal}
use Rattle.policy.specs.Refusals.{Answer}
use Rattle.wire.specs.declared.list.Entries.{Entries}
use Rattle.wire.specs.Format.{merged_version, list_limit, version_in, list_in}
use Rattle.wire.specs.Answers.{ifAccepted}
use Rattle.wire.specs.Checks.{checks_of, checked}

-- the entry that fills unused places: it matches no header and allows nothing
abbrev pub empty_entry : Entry
empty_entry = record {
  local_low = 1;
  local_high = 0;
  remote_low = 1;
  remote_high = 0;
  local_port_low = 1;
  local_port_high = 0;
  remote_port_low = 1;
  remote_port_high = 0;
  protocol_low = 1;
  protocol_high = 0;
  direction_low = 1;
  direction_high = 0;
  actions = 0;
}

-- the list that is held in the first places
abbrev pub held : Entries → List Entry
held l = take l.count l.entries

-- a list of a version in the first of 256 places, the others being empty
abbrev pub listed : ℕ → List Entry → Entries
listed v p = record { version = v; entries = p ++ replicate (list_limit - length p) empty_entry; count = length p }

-- no entries
abbrev pub no_entries : Entries
no_entries = listed merged_version []

-- reading: what checks 1 to 4 answer, and the list, which carries the file's version; no entries where the file is refused
abbrev pub reading_of : List ℕ → Answer × Entries
reading_of s = (checks_of s list_limit, ifAccepted (checks_of s list_limit) (listed (version_in s) (list_in s)) no_entries)

-- a reading in 01's terms
abbrev pub reading : Result Entries Refusal → Answer × Entries
reading (Ok l) = (checked (Ok l.count), l)
reading (Err r) = (checked (Err r), no_entries)
