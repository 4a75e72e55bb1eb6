-- Demand 2, its round trips: reading and writing undo each other. (Lookup, refinement and merging are those of the definitions by the calls' own contracts.)
use Rattle.std.specs.Prelude.{ℕ, List, [], ◌∷◌, ◌++◌, ltb, length, Option}
use Rattle.policy.specs.declared.refusal.Refusal.TheVariants.{Narrow}
use Rattle.policy.specs.Refusals.{Answer, accepted, refuse, first_of}
use Rattle.wire.specs.declared.list.Entries.{Entries}
use Rattle.wire.specs.Format.{list_limit}
use Rattle.wire.specs.Answers.{ifAccepted}
use Rattle.wire.specs.Checks.{file_checks}
use Rattle.wire.specs.Lists.{held, listed, no_entries}
use Rattle.wire.specs.Writing.{placed, write_checks, writing_of}

-- ---- a file read as a list and written again is the same file

-- checks 1 to 4 of the file, then 11: the buffer is shorter than the file
abbrev pub rewrite_checks : List ℕ → List ℕ → List (Option Answer)
rewrite_checks s buffer = file_checks s list_limit ++ refuse (ltb (length buffer) (length s)) (Narrow (length s)) ∷ []

abbrev pub rewrite_answer : List ℕ → List ℕ → Answer
rewrite_answer s buffer = first_of (rewrite_checks s buffer) (accepted (length s ∷ []))

-- the answer, and the buffer's final contents: the same file at its start, in its version
abbrev pub rewriting_of : List ℕ → List ℕ → Answer × List ℕ
rewriting_of s buffer = (rewrite_answer s buffer, ifAccepted (rewrite_answer s buffer) (placed s buffer) buffer)

-- ---- a list written and read again is the same list

-- the checks of writing, and then the number of entries
abbrev pub reread_answer : Entries → List ℕ → Answer
reread_answer l buffer = first_of (write_checks l buffer) (accepted (l.count ∷ []))

-- the answer, the list that was read, which is the same in the first places and has the same version, and the buffer's final contents; no entries where it is
-- refused
abbrev pub rereading_of : Entries → List ℕ → (Answer × Entries) × List ℕ
rereading_of l buffer = ((reread_answer l buffer, ifAccepted (reread_answer l buffer) (listed l.version (held l)) no_entries), (writing_of l buffer).1)
