-- What each call answers, from the book and the call's arguments alone (01, "What is turned down", "The bench", "Merging"; 02, Wishes 2 and 5).
use Rattle.reconcile.specs.declared.ending.Merged.{Merged}
use Rattle.policy.specs.declared.refusal.Refusal.{Refusal}
use Rattle.std.specs.Prelude.{ℕ, ◌+◌, ◌-◌, Bool, true, false, cond, ◌||◌, List, [], ◌∷◌, ◌++◌, ltb, eqb, get_or, None, Option, Some, Result, Ok, Err}
use Rattle.policy.specs.declared.header.Header.{Header}
use Rattle.policy.specs.declared.entry.Entry.{Entry}
use Rattle.policy.specs.declared.refusal.Refusal.TheVariants.{Party, Vacant, Conflict}
use Rattle.policy.specs.Header.{headers}
use Rattle.policy.specs.Policy.{catcher}
use Rattle.policy.specs.Refusals.{Answer, refusal, accepted, refuse, first_of}
use Rattle.wire.specs.Format.{filed_limit, count_in}
use Rattle.region.specs.ListChecks.{list_checks}
use Rattle.reconcile.specs.Rules.{conflict_of, merge_of}
use Rattle.reconcile.specs.Installing.{install_of}
use Rattle.reconcile.specs.Ending.{ending_of}
use Rattle.bench.specs.Book.{parties, Book, in_force}

-- ---- 01's number and values of each answer

abbrev pub filed : Result ℕ Refusal → Answer
filed (Ok n) = accepted (n ∷ [])
filed (Err r) = refusal r

abbrev pub withdrew : Result Unit Refusal → Answer
withdrew (Ok u) = accepted []
withdrew (Err r) = refusal r

-- an answer that carries more values behind its own
abbrev pub also : Answer → List ℕ → Answer
also a vs = record { number = a.number; values = a.values ++ vs }

-- the number of party p and that of an entry of its list
abbrev pub entry_of : ℕ → Option ℕ → List ℕ
entry_of p (Some i) = p ∷ i ∷ []
entry_of p None = []

-- the entries that are named beside an answer; the parties are numbered from p on
abbrev pub named_from : ℕ → List (Option ℕ) → List ℕ
named_from p [] = []
named_from p (n ∷ ns) = entry_of p n ++ named_from (p + 1) ns

-- of a merging or an installing; what is named stands in an array beside it, with a place for each party
abbrev pub merged_as : Result Merged Refusal → List (Option ℕ) → Answer
merged_as (Ok m) ns = also (accepted (m.count ∷ m.length ∷ [])) (named_from 1 ns)
merged_as (Err r) ns = also (refusal r) (named_from 1 ns)

-- ---- filing: 6, then 1 to 5

-- the party number is not 1 to 8
abbrev pub bad_party : ℕ → Bool
bad_party p = ltb p 1 || ltb parties p

abbrev pub filing_of : ℕ → List ℕ → Answer
filing_of p s = first_of (refuse (bad_party p) Party ∷ list_checks s filed_limit) (accepted (count_in s ∷ []))

-- ---- withdrawal: 6, 7

abbrev pub is_vacant : Option (List Entry) → Bool
is_vacant None = true
is_vacant (Some p) = false

abbrev pub withdrawal_of : Book → ℕ → Answer
withdrawal_of k p = first_of (refuse (bad_party p) Party ∷ refuse (is_vacant (get_or k (p - 1) None)) Vacant ∷ []) (accepted [])

-- ---- whose entries clash (02, Wish 5)

-- for each party in force, in rising number: its number, and that of the entry of its list that catches the header (Definition 3); parties are numbered from p on
abbrev pub catchers_from : ℕ → Book → Header → List ℕ
catchers_from p [] h = []
catchers_from p (None ∷ k) h = catchers_from (p + 1) k h
catchers_from p (Some q ∷ k) h = entry_of p (catcher q h) ++ catchers_from (p + 1) k h

-- the refusal for conflict: 10, the header, and the entries that catch it
abbrev pub conflict_answer : Book → Header → Answer
conflict_answer k h = also (refusal (Conflict h)) (catchers_from 1 k h)

-- those of the header that was found
abbrev pub entries_at : Book → Option Header → List ℕ
entries_at k (Some h) = catchers_from 1 k h
entries_at k None = []

-- what an answer names: a refusal for conflict the entries that catch the header, and no other answer any
abbrev pub entries_for : Book → Answer → List ℕ
entries_for k a = cond (eqb a.number 10) (entries_at k (conflict_of headers (in_force k))) []

-- the answer with what it names, and the buffer's final contents
abbrev pub naming : Book → Answer × List ℕ → Answer × List ℕ
naming k r = (also r.0 (entries_for k r.0), r.1)

-- ---- merging: 8, 9, 10, 11

-- the answer, and the buffer's final contents, for the lists in force (reconcile, specs/Ending.antt)
abbrev pub merging_of : Book → List ℕ → Answer × List ℕ
merging_of k buffer = naming k (ending_of (merge_of headers (in_force k)) buffer)

-- ---- installing: 12, 8, 9, 10, 11

abbrev pub installing_of : Book → List ℕ → List ℕ → Answer × List ℕ
installing_of k ranking buffer = naming k (ending_of (install_of headers ranking (in_force k)) buffer)
