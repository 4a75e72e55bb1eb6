-- Refusals 8 to 12 and the file that is written (01, "What is turned down" and "Merging"; 02, Wish 2).
use Rattle.std.specs.Prelude.{ℕ, Bool, true, false, not, List, [], ◌∷◌, length, Option}
use Rattle.policy.specs.declared.entry.Entry.{Entry}
use Rattle.policy.specs.declared.refusal.Refusal.TheVariants.{Bare, Crowded, Conflict, Ranking}
use Rattle.policy.specs.Header.{Headers}
use Rattle.policy.specs.Ranking.{is_ranking}
use Rattle.policy.specs.Refusals.{Answer, refusal, accepted, refuse, refuse_at, first_of}
use Rattle.wire.specs.Format.{merged_version, file_size, file_of}
use Rattle.wire.specs.Answers.{ifAccepted}
use Rattle.wire.specs.Writing.{placed, too_narrow}
use Rattle.reconcile.specs.Rules.{Working, list, crowded, working, conflict_of, struck, Merging, refused, merged}

-- the answer: 8, 9, 10 or 11, or the file's entry count and length
abbrev pub answer_of : Merging → List ℕ → Answer
answer_of (refused r) buffer = refusal r
answer_of (merged p) buffer = first_of (too_narrow merged_version (length p) buffer ∷ []) (accepted (length p ∷ file_size merged_version (length p) ∷ []))

-- the file of the merged list: of version 2, whatever was filed (02, Wish 4)
abbrev pub file_for : Merging → List ℕ
file_for (refused r) = []
file_for (merged p) = file_of merged_version p

-- the answer, and the buffer's final contents: a refusal leaves it as it was
abbrev pub ending_of : Merging → List ℕ → Answer × List ℕ
ending_of m buffer = (answer_of m buffer, ifAccepted (answer_of m buffer) (placed (file_for m) buffer) buffer)

-- ---- the answer as 01 orders the checks

abbrev pub no_list : List (List Entry) → Bool
no_list [] = true
no_list (p ∷ ps) = false

abbrev pub is_crowded : Working → Bool
is_crowded (list w) = false
is_crowded crowded = true

abbrev pub left_of : Headers → Working → List Entry
left_of hs (list w) = struck hs w
left_of hs crowded = []

-- the working list of the lists in force, if there is one
abbrev pub working_of : Headers → List (List Entry) → Working
working_of hs [] = list []
working_of hs (p ∷ ps) = working hs p ps

-- 8, 9, 10, and 11 for a file of n entries
abbrev pub merge_checks : Headers → List (List Entry) → ℕ → List ℕ → List (Option Answer)
merge_checks hs ps n buffer =
    refuse (no_list ps) Bare
    ∷ refuse (is_crowded (working_of hs ps)) Crowded
    ∷ refuse_at Conflict (conflict_of hs ps)
    ∷ too_narrow merged_version n buffer
    ∷ []

-- 12, 8, 9, 10, and 11 for a file of n entries
abbrev pub install_checks : Headers → List ℕ → List (List Entry) → ℕ → List ℕ → List (Option Answer)
install_checks hs ranking ps n buffer = refuse (not (is_ranking ranking)) Ranking ∷ merge_checks hs ps n buffer
