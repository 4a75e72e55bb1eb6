-- Lists of calls: the bench that they make, and the book that 01 reckons from their arguments.
use Rattle.std.specs.Prelude.{ℕ, ◌-◌, cond, List, [], ◌∷◌, set, None, Some}
use Rattle.policy.specs.Refusals.{Answer, is_accepted}
use Rattle.wire.specs.Format.{Bytes, list_in}
use Rattle.wire.specs.Answers.{ifAccepted}
use Rattle.bench.specs.declared.calls.Bench.{Bench}
use Rattle.bench.specs.Book.{Book, empty_book}
use Rattle.bench.specs.Answers.{filing_of, withdrawal_of, merging_of, installing_of}
use Rattle.bench.specs.Held.{vacant_slot, slot_with, book_of, open_bench, with_slot}

-- a call, with what it is handed beside the bench
pub data Call : Type 0 where
  filing : (party : ℕ) → (bytes : List ℕ) → Call
  withdrawal : (party : ℕ) → Call
  merging : (buffer : List ℕ) → Call
  installing : (ranking : List ℕ) → (buffer : List ℕ) → Call
  trying : (party : ℕ) → (bytes : List ℕ) → (buffer : List ℕ) → Call

-- ---- what each call hands back, as the calls' contracts have it

abbrev pub bench_filed : Bench → ℕ → List ℕ → Bench
bench_filed b p s = cond (is_accepted (filing_of p s)) (with_slot b p (slot_with s)) b

abbrev pub bench_withdrawn : Bench → ℕ → Bench
bench_withdrawn b p = cond (is_accepted (withdrawal_of (book_of b) p)) (with_slot b p vacant_slot) b

-- a trial (02, Wish 6): filing's answer where that refuses, and else the answer and the buffer of a merging on the bench that filing hands back
abbrev pub trying_of : Bench → ℕ → List ℕ → List ℕ → Answer × List ℕ
trying_of b p s buffer = ifAccepted (filing_of p s) (merging_of (book_of (bench_filed b p s)) buffer) (filing_of p s, buffer)

-- the answer, the bench, and the final contents of the buffer that was lent; nothing where none was
abbrev pub CallResult : Type 0
CallResult = Answer × Bench × List ℕ

abbrev pub result_of : Bench → Call → CallResult
result_of b (filing p s) = (filing_of p s, bench_filed b p s, [])
result_of b (withdrawal p) = (withdrawal_of (book_of b) p, bench_withdrawn b p, [])
result_of b (merging buffer) = ((merging_of (book_of b) buffer).0, b, (merging_of (book_of b) buffer).1)
result_of b (installing ranking buffer) = ((installing_of (book_of b) ranking buffer).0, b, (installing_of (book_of b) ranking buffer).1)
result_of b (trying p s buffer) = ((trying_of b p s buffer).0, b, (trying_of b p s buffer).1)

abbrev pub answer_to : Bench → Call → Answer
answer_to b c = (result_of b c).0

abbrev pub bench_step : Bench → Call → Bench
bench_step b c = (result_of b c).1

abbrev pub lent_after : Bench → Call → List ℕ
lent_after b c = (result_of b c).2

-- what the lent buffer held before the call
abbrev pub lent_to : Call → List ℕ
lent_to (filing p s) = []
lent_to (withdrawal p) = []
lent_to (merging buffer) = buffer
lent_to (installing ranking buffer) = buffer
lent_to (trying p s buffer) = buffer

-- ---- a list of calls

abbrev pub bench_from : Bench → List Call → Bench
bench_from b [] = b
bench_from b (c ∷ cs) = bench_from (bench_step b c) cs

-- the bench after a list of calls from an opening, each handed the bench that the last one returned
unfoldable pub bench_after : List Call → Bench
bench_after cs = bench_from open_bench cs

-- what each of them hands back
abbrev pub results_from : Bench → List Call → List CallResult
results_from b [] = []
results_from b (c ∷ cs) = result_of b c ∷ results_from (bench_step b c) cs

unfoldable pub results_of : List Call → List CallResult
results_of cs = results_from open_bench cs

-- ---- the book, reckoned from the calls' arguments

abbrev pub book_step : Book → Call → Book
book_step k (filing p s) = cond (is_accepted (filing_of p s)) (set k (p - 1) (Some (list_in s))) k
book_step k (withdrawal p) = cond (is_accepted (withdrawal_of k p)) (set k (p - 1) None) k
book_step k (merging buffer) = k
book_step k (installing ranking buffer) = k
book_step k (trying p s buffer) = k

abbrev pub book_from : Book → List Call → Book
book_from k [] = k
book_from k (c ∷ cs) = book_from (book_step k c) cs

unfoldable pub book_after : List Call → Book
book_after cs = book_from empty_book cs

-- ---- what is handed to a call is bytes

-- what holds of every filing's bytes
abbrev pub FilesHave : (List ℕ → Type 0) → List Call → Type 0
FilesHave Q [] = Unit {0}
FilesHave Q (filing p s ∷ cs) = Q s × FilesHave Q cs
FilesHave Q (withdrawal p ∷ cs) = FilesHave Q cs
FilesHave Q (merging buffer ∷ cs) = FilesHave Q cs
FilesHave Q (installing ranking buffer ∷ cs) = FilesHave Q cs
FilesHave Q (trying p s buffer ∷ cs) = Q s × FilesHave Q cs

abbrev pub AllBytes : List Call → Type 0
AllBytes cs = FilesHave Bytes cs
