-- The numbers that stand for answers in the calls that are timed, and for what is asked.
use Rattle.std.specs.Prelude.{ℕ, ◌+◌, cond, List, [], ◌∷◌, ltb, eqb, length, get_or}
use Rattle.policy.specs.Entry.{selector}
use Rattle.policy.specs.Refusals.{Answer, is_accepted}
use Rattle.wire.specs.Format.{merged_version, record_size, entry_at, header_put}
use Rattle.region.specs.declared.search.Want.{Want}
use Rattle.region.specs.declared.search.Want.TheVariants.{Uncaught, CaughtBy, Differs}
use Rattle.region.specs.Search.{search_of}

-- lookup: the entry's, 256 for none
abbrev pub caught_number : Answer → ℕ
caught_number a = get_or a.values 0 256

-- merging: the number of entries, or 256 plus the refusal number
abbrev pub merge_number : Answer → ℕ
merge_number a = cond (is_accepted a) (get_or a.values 0 0) (256 + a.number)

-- what is looked for: 0 for uncaught, 1 for caught by the entry of a number, else a set other than it
abbrev pub wanted : ℕ → ℕ → Want
wanted want value = cond (eqb want 0) Uncaught (cond (eqb want 1) (CaughtBy value) (Differs value))

-- 0 and the buffer for no header; 1 and the header put in the buffer
abbrev pub found_result : List ℕ → List ℕ → ℕ × List ℕ
found_result [] buffer = (0, buffer)
found_result (v ∷ vs) buffer = (1, header_put (v ∷ vs) buffer)

-- a search: what it found, or 256 plus the refusal number and the buffer
abbrev pub search_result : Answer → List ℕ → ℕ × List ℕ
search_result a buffer = cond (is_accepted a) (found_result a.values buffer) (256 + a.number, buffer)

-- the search of a record's selector; 512 and the buffer where there are too few bytes for a record
unfoldable pub measured_search : (file entry : List ℕ) → (want value : ℕ) → (buffer : List ℕ) → ℕ × List ℕ
measured_search file entry want value buffer =
    cond (ltb (length entry) (record_size merged_version)) (512, buffer)
    (search_result (search_of file (selector (entry_at merged_version entry 0)) (wanted want value)) buffer)
