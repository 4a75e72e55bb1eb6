-- Lookup in a file and in a table (01, "Lookup and comparison").
use Rattle.policy.specs.declared.refusal.Refusal.{Refusal}
use Rattle.std.specs.Prelude.{ℕ, ◌+◌, cond, List, [], ◌∷◌, map, take, drop, None, Option, Some, Result, Ok, Err}
use Rattle.std.specs.Borrow.{Bor}
use Rattle.policy.specs.declared.header.Header.{Header}
use Rattle.policy.specs.declared.entry.Entry as entry
use Rattle.policy.specs.Header.{among, headers}
use Rattle.policy.specs.Entry.{crossed}
use Rattle.policy.specs.Policy.{catcher}
use Rattle.policy.specs.Refusals.{Answer, refusal, accepted, is_accepted, first_of}
use Rattle.wire.specs.Format.{record_size, list_limit, version_in, place_in, list_in}
use Rattle.wire.specs.Lists.{empty_entry}
use Rattle.wire.specs.Checks.{file_checks, checks_of}

-- the values of an accepted answer: the number of the entry that catches the header, if one does
abbrev pub caught_values : Option ℕ → List ℕ
caught_values (Some i) = i ∷ []
caught_values None = []

-- the companion call's answer in 01's terms
abbrev pub looked : Result (Option ℕ) Refusal → Answer
looked (Ok c) = accepted (caught_values c)
looked (Err r) = refusal r

-- Definition 3 for any combination of numbers: nothing catches one that is no header (02, Wish 1)
abbrev pub header_catcher : List entry.Entry → Header → Option ℕ
header_catcher p h = cond (among headers h) (catcher p h) None

-- lookup: checks 1 to 4 of a file of up to 256 entries, then Definition 3 over the list that the file holds
abbrev pub lookup_of : List ℕ → Header → Answer
lookup_of s h = first_of (file_checks s list_limit) (accepted (caught_values (header_catcher (list_in s) h)))

-- the answer of a lookup in a table in 01's terms: the entry's number, and nothing for "uncaught"
abbrev pub caught_answer : Option ℕ → Answer
caught_answer c = accepted (caught_values c)

-- an entry of a table, which nobody has checked: a crossed one counts as one that matches nothing
abbrev pub counted : entry.Entry → entry.Entry
counted e = cond (crossed e) empty_entry e

-- lookup in a table: Definition 3 over its entries
abbrev pub table_lookup_of : List entry.Entry → Header → Answer
table_lookup_of p h = caught_answer (header_catcher (map counted p) h)

-- a part of a slice: where it starts, and how many bytes it has
pub record Part : Type 0 where
  pub start : ℕ
  pub size : ℕ

-- the part of length zero at the start
abbrev pub no_part : Part
no_part = record { start = 0; size = 0 }

-- the catching record's part of a file: it has the size of its file's records
abbrev pub record_part : List ℕ → Option ℕ → Part
record_part s (Some i) = record { start = place_in s i; size = record_size (version_in s) }
record_part s None = no_part

-- the part that lookup hands back, also where the file is refused
abbrev pub part_for : List ℕ → Header → Part
part_for s h = cond (is_accepted (checks_of s list_limit)) (record_part s (header_catcher (list_in s) h)) no_part

-- a lent slice: its place in memory, and its bytes
abbrev pub lent : Bor (List ℕ) → (ℕ × ℕ) × List ℕ
lent r = (r.ref_ptr, r.now)

-- that part of a lent slice
abbrev pub lent_part : Bor (List ℕ) → Part → (ℕ × ℕ) × List ℕ
lent_part r p = ((r.ref_ptr.0, r.ref_ptr.1 + p.start), take p.size (drop p.start r.now))
