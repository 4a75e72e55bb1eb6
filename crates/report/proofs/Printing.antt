-- What is printed of the merging, by 01's rules, and that it keeps to demand 3.
-- Assumes nothing.
use Prim.Native.Nat.{ℕ, zero, suc, ◌≤◌}
use native.Mathlib.Omega.{arith}
use mathlib.Core.Path.{◌≡◌, refl, ◌∙◌, ap}
use mathlib.Core.Bool.{Bool, cond}
use mathlib.Core.List.{List, [], ◌∷◌, ◌++◌}
use lib.ListN.{length, drop, length-replicate, get_or}
use borrow.Author.Tests.{le-ltb}
use Rattle.policy.specs.declared.entry.Entry.{Entry}
use Rattle.policy.specs.declared.refusal.Refusal.TheVariants.{Narrow}
use Rattle.policy.specs.Header.{headers}
use Rattle.policy.specs.Refusals.{Answer, refusal, accepted, refuse, first_of}
use Rattle.policy.proofs.Refusals.{refusal_refuses}
use Rattle.wire.specs.Format.{Bytes, merged_version, head_size, list_limit, file_size, count_in, record_of, records_of, file_of}
use Rattle.wire.specs.Answers.{ifAccepted}
use Rattle.wire.specs.Writing.{placed}
use Rattle.wire.proofs.Bytes.{bytes_take, bytes_drop}
use Rattle.wire.proofs.Records.{entries_fit}
use Rattle.wire.specs.steps.Fits.{AllFit}
use Rattle.reconcile.specs.Crossproduct.{AllCovering}
use Rattle.reconcile.specs.Rules.{Merging, refused, merged, merge_of}
use Rattle.reconcile.specs.Ending.{ending_of}
use Rattle.reconcile.proofs.Merging.{merged_few}
use Rattle.bench.specs.Book.{Book, in_force}
use Rattle.bench.specs.Answers.{also, entries_for, naming, merging_of}
use Rattle.bench.specs.Calls.{book_after, AllBytes}
use Rattle.bench.specs.Demand3.{MergedList, Demand3}
use Rattle.bench.proofs.Trace.{all_covering, all_in_force_of}
use Rattle.bench.proofs.Fitting.{reads_back}
use Rattle.bench.proofs.Demand3.{merged_list_is, demand_3}
use Rattle.report.specs.Text.{ascii, decimal, hex}
use Rattle.report.specs.Report.{input_limit, file_run, filings_in, filings_of, filing_lines, refused_line, record_lines, merging_lines, merge_buffer, lines_of, report_of}

-- ---- the lines of a list and of each outcome

abbrev pub list_lines : List Entry → List ℕ
list_lines [] = []
list_lines (e ∷ m) = hex (record_of merged_version e) ++ ascii "\n" ++ list_lines m

-- the book tells what a conflict names
abbrev pub outcome_lines : Book → Merging → List ℕ
outcome_lines k (refused r) = refused_line 0 (also (refusal r) (entries_for k (refusal r)))
outcome_lines k (merged m) = ascii "merged " ++ decimal (length m) ++ ascii "\n" ++ list_lines m

-- the lines of a file's records are those of its list
records_are : (m : List Entry) (rest : List ℕ) → record_lines (length m) (records_of merged_version m ++ rest) ≡ list_lines m
records_are [] rest = refl
records_are (e ∷ m) rest = ap (λ (l : List ℕ). hex (record_of merged_version e) ++ ascii "\n" ++ l) (records_are m rest)

-- a merged list is never too long for the buffer
module _ (k : Book) (buffer : List ℕ) (size : length buffer ≡ file_size merged_version list_limit) where
  merged_lines : (m : List Entry) → length m ≤ list_limit → merging_lines (naming k (ending_of (merged m) buffer)) ≡ outcome_lines k (merged m)
  merged_lines m few =
      ap (λ (t : Bool). merging_lines (naming k (written t, ifAccepted (written t) (placed (file_of merged_version m) buffer) buffer)))
      (le-ltb (length buffer) (file_size merged_version (length m)) (fits (length m) (length buffer) few size))
      ∙ ap (λ (l : List ℕ). ascii "merged " ++ decimal (length m) ++ ascii "\n" ++ l) (records_are m (drop (length (file_of merged_version m)) buffer))
    where
      written : Bool → Answer
      written t = first_of (refuse t (Narrow (file_size merged_version (length m))) ∷ []) (accepted (length m ∷ file_size merged_version (length m) ∷ []))

      fits : (n l : ℕ) → n ≤ list_limit → l ≡ file_size merged_version list_limit → file_size merged_version n ≤ l
      fits n l h e = omega arith

  outcome_lines_lem : (r : Merging) → ((m : List Entry) → r ≡ merged m → length m ≤ list_limit) → merging_lines (naming k (ending_of r buffer)) ≡ outcome_lines k r
  outcome_lines_lem (refused r) few =
      let vs = (refusal r).values ++ entries_for k (refusal r) in
      ap (λ (t : Bool). cond t (ascii "merged " ++ decimal (get_or vs 0 0) ++ ascii "\n" ++ record_lines (get_or vs 0 0) (drop head_size (cond t (placed [] buffer) buffer))) (refused_line 0 (also (refusal r) (entries_for k (refusal r)))))
      (refusal_refuses r)
  outcome_lines_lem (merged m) few = merged_lines m (few m refl)

few_merged : (ps : List (List Entry)) (m : List Entry) → merge_of headers ps ≡ merged m → length m ≤ list_limit
few_merged [] m e = absurd (let z : ◌≡◌ {A = ℕ} 0 1 = cc in omega arith)
few_merged (p ∷ ps) m e = merged_few headers p ps m e

-- ---- the report

-- the book and the lists in force after the filings of an input
abbrev pub book_of_input : List ℕ → Book
book_of_input input = book_after (filings_of input)

abbrev pub in_force_after : List ℕ → List (List Entry)
in_force_after input = in_force (book_of_input input)

-- a line for each filing, then the lines of the merging
pub printed : (input : List ℕ) → length input ≤ input_limit → report_of input ≡ filing_lines (filings_of input) ++ outcome_lines (book_of_input input) (merge_of headers (in_force_after input))
unfolding report_of
printed input h =
    ap (λ (t : Bool). cond t (ascii "input too long\n") (lines_of (filings_of input))) (le-ltb input_limit (length input) h)
    ∙ ap (λ (l : List ℕ). filing_lines (filings_of input) ++ l)
    (outcome_lines_lem (book_of_input input) merge_buffer (length-replicate {A = ℕ} (file_size merged_version list_limit) 0) (merge_of headers (in_force_after input)) (few_merged (in_force_after input)))

-- the records printed are those of the merged list: it allows each header exactly the common actions, is the widest such list, and nothing in it can be struck
pub printed_list : (input : List ℕ) (m : List Entry) → merge_of headers (in_force_after input) ≡ merged m → MergedList (in_force_after input) m (length m)
printed_list input m e = go (in_force_after input) (all_covering (filings_of input)) e
  where
    go : (ps : List (List Entry)) → AllCovering headers ps → merge_of headers ps ≡ merged m → MergedList ps m (length m)
    go [] c e = absurd (let z : ◌≡◌ {A = ℕ} 0 1 = cc in omega arith)
    go (p ∷ ps) c e = merged_list_is p ps c m e

-- ---- demand 3

-- the filings of an input of bytes are of bytes
all_bytes : (n : ℕ) (s : List ℕ) → Bytes s → AllBytes (filings_in n s)
all_bytes zero s b = tt
all_bytes (suc n) [] b = tt
all_bytes (suc n) (p ∷ s) b = (bytes_take (file_run s) s bytes, all_bytes n (drop (file_run s) s) (bytes_drop (file_run s) s bytes))
  where
    bytes : Bytes s
    bytes i = b (suc i)

-- the answer and the buffer that are printed
pub printed_keeps : (input : List ℕ) → Bytes input → Demand3 (book_of_input input) merge_buffer (merging_of (book_of_input input) merge_buffer).0 (merging_of (book_of_input input) merge_buffer).1
unfolding filings_of
printed_keeps input b =
    demand_3 (book_of_input input) merge_buffer (all_covering (filings_of input))
    (reads_back (in_force_after input) (all_in_force_of AllFit (λ p s c f. entries_fit s 0 (count_in s) c) (filings_of input) (all_bytes (length input) input b)))
