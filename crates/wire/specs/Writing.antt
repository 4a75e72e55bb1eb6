-- Writing a list as a file into a lent buffer (01, "The file").
use Rattle.std.specs.Prelude.{ℕ, ◌≡◌, Bool, not, ◌&&◌, ◌||◌, List, [], ◌∷◌, ◌++◌, Result, Ok, Err, ltb, eqb, length, take, drop, Option}
use Rattle.policy.specs.declared.entry.Entry.{Entry}
use Rattle.policy.specs.declared.refusal.Refusal.{Refusal}
use Rattle.policy.specs.declared.refusal.Refusal.TheVariants.{Version, Count, Crossed, Narrow}
use Rattle.policy.specs.Entry.{crossed}
use Rattle.policy.specs.Refusals.{Answer, refusal, accepted, refuse, first_of}
use Rattle.wire.specs.declared.list.Entries.{Entries}
use Rattle.wire.specs.Format.{is_version, list_limit, file_size, file_of}
use Rattle.wire.specs.Answers.{ifAccepted}
use Rattle.wire.specs.Checks.{outside, first_from, refuse_entry}
use Rattle.wire.specs.Lists.{held, listed, reading_of}

-- bytes at the start of a buffer; those after them keep their values
abbrev pub placed : List ℕ → List ℕ → List ℕ
placed s buffer = s ++ drop (length s) buffer

-- 11, narrow: the buffer is shorter than the file of n entries
abbrev pub too_narrow : ℕ → ℕ → List ℕ → Option Answer
too_narrow v n buffer = refuse (ltb (length buffer) (file_size v n)) (Narrow (file_size v n))

-- an entry covers both directions, and no other
abbrev pub both_ways : Entry → Bool
both_ways e = eqb e.direction_low 0 && eqb e.direction_high 1

-- under version 1, whose records have no direction, an entry of another direction counts as crossed too (02, Wish 4)
abbrev pub crossed_in : ℕ → Entry → Bool
crossed_in v e = crossed e || (eqb v 1 && not (both_ways e))

abbrev pub first_crossed_in : ℕ → List Entry → Option ℕ
first_crossed_in v p = first_from (crossed_in v) 0 p

-- the checks of writing, in their order: 2 (the list's version is not 1 or 2), 3 (count not 1 to 256), 4 and 11
abbrev pub write_checks : Entries → List ℕ → List (Option Answer)
write_checks l buffer =
    refuse (not (is_version l.version)) Version
    ∷ refuse (outside list_limit l.count) Count
    ∷ refuse_entry Crossed (first_crossed_in l.version (held l))
    ∷ too_narrow l.version l.count buffer
    ∷ []

-- what they answer: the first refusal, or the file's length
abbrev pub write_answer : Entries → List ℕ → Answer
write_answer l buffer = first_of (write_checks l buffer) (accepted (file_size l.version l.count ∷ []))

-- writing: the answer, and the buffer's final contents; a refusal leaves it as it was
abbrev pub writing_of : Entries → List ℕ → Answer × List ℕ
writing_of l buffer = (write_answer l buffer, ifAccepted (write_answer l buffer) (placed (file_of l.version (held l)) buffer) buffer)

-- a list that was written, and its bytes read again: the same list, of its version
abbrev pub ReadAgain : Entries → Result ℕ Refusal → List ℕ → Type 0
ReadAgain l (Ok n) buffer = reading_of (take n buffer) ≡ (accepted (l.count ∷ []), listed l.version (held l))
ReadAgain l (Err r) buffer = Unit {0}

-- a writing in 01's terms
abbrev pub writing : Result ℕ Refusal → List ℕ → Answer × List ℕ
writing (Ok n) buffer = (accepted (n ∷ []), buffer)
writing (Err r) buffer = (refusal r, buffer)
