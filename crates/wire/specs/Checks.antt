-- Checks 1 to 4 of a file (01, "What is turned down").
use Rattle.std.specs.Prelude.{ℕ, ◌+◌, ◌-◌, ◌/◌, ◌%◌, Bool, not, cond, ◌||◌, List, [], ◌∷◌, Result, Ok, Err, ltb, eqb, length, None, Option, Some}
use Rattle.policy.specs.declared.entry.Entry.{Entry}
use Rattle.policy.specs.declared.refusal.Refusal.{Refusal}
use Rattle.policy.specs.declared.refusal.Refusal.TheVariants.{Missized, Version, Count, Crossed}
use Rattle.policy.specs.Entry.{crossed}
use Rattle.policy.specs.Refusals.{Answer, refusal, accepted, refuse, first_of}
use Rattle.wire.specs.Format.{is_version, head_size, record_size, length_in, version_in, count_in, list_in}

-- 1, missized: fewer than 5 bytes, or not exactly L + 2
abbrev pub missized : List ℕ → Bool
missized s = ltb (length s) head_size || not (eqb (length s) (length_in s + 2))

-- 2, version: byte 2 is not 1 or 2
abbrev pub bad_version : List ℕ → Bool
bad_version s = not (is_version (version_in s))

-- n is not 1 to the limit
abbrev pub outside : ℕ → ℕ → Bool
outside limit n = ltb n 1 || ltb limit n

-- 3, count: n is outside its limits, or (L − 3) divided by the size of a record, 28 or 30, isn't n with remainder 0
abbrev pub bad_count : List ℕ → ℕ → Bool
bad_count s limit =
    outside limit (count_in s)
    || (not (eqb ((length_in s - 3) / record_size (version_in s)) (count_in s)) || not (eqb ((length_in s - 3) % record_size (version_in s)) 0))

-- the number of the first entry with a property; entries are numbered from i
abbrev pub first_from : (Entry → Bool) → ℕ → List Entry → Option ℕ
first_from P i [] = None
first_from P i (e ∷ p) = cond (P e) (Some i) (first_from P (i + 1) p)

-- 4, crossed: the number of the first crossed entry
abbrev pub first_crossed : List Entry → Option ℕ
first_crossed p = first_from crossed 0 p

-- a check refuses where there is an entry to name
abbrev pub refuse_entry : (ℕ → Refusal) → Option ℕ → Option Answer
refuse_entry r (Some i) = Some (refusal (r i))
refuse_entry r None = None

-- checks 1 to 4 of a file whose list may have up to `limit` entries, in their order
abbrev pub file_checks : List ℕ → ℕ → List (Option Answer)
file_checks s limit =
    refuse (missized s) Missized
    ∷ refuse (bad_version s) Version
    ∷ refuse (bad_count s limit) Count
    ∷ refuse_entry Crossed (first_crossed (list_in s))
    ∷ []

-- what they answer: the first refusal, or n
abbrev pub checks_of : List ℕ → ℕ → Answer
checks_of s limit = first_of (file_checks s limit) (accepted (count_in s ∷ []))

-- the answer of a check in 01's terms
abbrev pub checked : Result ℕ Refusal → Answer
checked (Ok n) = accepted (n ∷ [])
checked (Err r) = refusal r
