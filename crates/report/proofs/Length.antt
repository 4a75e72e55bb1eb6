-- How long the report is at most: each record but the last has at least 3 bytes, and its line at most 44.
-- Assumes nothing.
use Rattle.std.specs.Prelude.{None, Option, Some}
use Prim.Native.Nat.{ℕ, zero, suc, ◌+◌, ◌*◌, ◌/◌, ◌%◌, ◌^◌, ◌≤◌, ◌<◌}
use native.Mathlib.Nat.{pow-succ'}
use native.Mathlib.Omega.{arith}
use mathlib.Core.Path.{◌≡◌, refl, ◌∙◌, ap, subst}
use mathlib.Core.Bool.{Bool, true, false, cond}
use mathlib.Core.List.{List, [], ◌∷◌, ◌++◌}
use lib.Dec.{ltb}
use lib.ListN.{length, take, drop, length-append, length-take, length-drop, length-replicate, drop_of_length-le}
use borrow.Author.Tests.{ltb-false, ltb-true}
use Rattle.policy.specs.declared.header.Header.{Header}
use Rattle.policy.specs.declared.entry.Entry.{Entry}
use Rattle.policy.specs.Policy.{catcher}
use Rattle.policy.specs.declared.refusal.Refusal.{Refusal}
use Rattle.policy.specs.declared.refusal.Refusal.TheVariants.{Missized, Version, Count, Crossed, Gap, Party, Bare, Crowded, Conflict, Narrow}
use Rattle.policy.specs.Entry.{crossed}
use Rattle.policy.specs.Refusals.{Answer, refusal, accepted, refuse, refuse_at, first_of}
use Rattle.wire.specs.Format.{Bytes, merged_version, head_size, record_size, filed_limit, list_limit, file_size, file_of, count_in, list_in}
use Rattle.wire.specs.Checks.{missized, bad_version, bad_count, first_from, first_crossed, refuse_entry}
use Rattle.wire.proofs.Bytes.{bytes_take, bytes_drop}
use Rattle.wire.proofs.Entries.{length_entries}
use Rattle.region.specs.ListChecks.{gap_of}
use Rattle.policy.specs.Header.{headers}
use Rattle.reconcile.specs.Rules.{conflict_of}
use Rattle.reconcile.proofs.Merging.{merging_cases}
use Rattle.wire.specs.Answers.{ifAccepted}
use Rattle.wire.specs.Writing.{placed}
use Rattle.reconcile.specs.Ending.{ending_of}
use Rattle.lookup.proofs.FileLookup.{caught_below}
use Rattle.bench.specs.Book.{parties, Book, in_force}
use Rattle.bench.specs.Answers.{bad_party, filing_of, also, entry_of, catchers_from, entries_at, naming, merging_of}
use Rattle.bench.specs.steps.Staged.{EachSlot}
use Rattle.bench.proofs.Trace.{all_few, all_slots}
use Rattle.bench.specs.Calls.{book_after}
use Rattle.report.specs.Text.{ascii, digit, decimal, hex}
use Rattle.report.specs.Report.{input_limit, file_run, filings_in, filings_of, entries_text, detail, refused_line, filing_line, filing_lines, record_lines, merging_lines, merge_buffer, lines_of, report_of, report_size}
use Rattle.report.proofs.Digits.{one_digit, last_digit}
use Rattle.report.proofs.Lines.{line_refused}

-- ---- texts

one_long : (n : ℕ) → n < 10 → length (decimal n) ≤ 1
one_long n h = omega (arith, ap length (one_digit n h))

-- a number below 10 ^ (k + 1) has at most k + 1 digits
pub digits_within : (k n : ℕ) → n < 10 ^ suc k → length (decimal n) ≤ suc k
digits_within zero n h = one_long n h
digits_within (suc k) n h = go (λ g. digits_within k (n / 10) g) (ltb n 10) refl
  where
    tenth : (m : ℕ) → n < 10 * m → n / 10 < m
    tenth m h = omega arith

    go : (n / 10 < 10 ^ suc k → length (decimal (n / 10)) ≤ suc k) → (t : Bool) → ltb n 10 ≡ t → length (decimal n) ≤ suc (suc k)
    go shorter true e = omega (arith, one_long n (ltb-true n 10 e))
    go shorter false e =
        omega (arith, shorter (tenth (10 ^ suc k) (subst (λ (m : ℕ). n < m) (pow-succ' 10 (suc k)) h)), ap length (last_digit n (ltb-false n 10 e)), length-append (decimal (n / 10)) (digit (n % 10) ∷ []))

hex_length : (s : List ℕ) → length (hex s) ≡ 2 * length s
hex_length [] = refl
hex_length (b ∷ s) = omega (arith, hex_length s)

-- ---- the line of a filing

refused_length : (p : ℕ) (a : Answer) → p < 256 → a.number < 12 → length (detail a) ≤ 29 → length (refused_line p a) ≤ 44
refused_length p a h n d = simp length-append (omega (arith, digits_within 2 p (omega arith), digits_within 1 a.number (omega arith)))

-- the line of an accepted filing
filed_length : (p n : ℕ) → p < 256 → n < 65536 → length (filing_line p (accepted (n ∷ []))) ≤ 44
filed_length p n h g = simp length-append (omega (arith, digits_within 2 p (omega arith), digits_within 4 n (omega arith)))

entry_length : (i : ℕ) → i < 65536 → length (detail (refusal (Crossed i))) ≤ 29
entry_length i h = omega (arith, digits_within 4 i (omega arith))

-- what holds of the answer of each check, and of an acceptance, holds of the first
module _ (P : Answer → Type 0) where
  abbrev Each : List (Option Answer) → Type 0
  Each [] = Unit {0}
  Each (Some a ∷ rs) = P a × Each rs
  Each (None ∷ rs) = Each rs

  first_has : (rs : List (Option Answer)) (a : Answer) → Each rs → P a → P (first_of rs a)
  first_has [] a e p = p
  first_has (Some b ∷ rs) a e p = e.0
  first_has (None ∷ rs) a e p = first_has rs a e p

  each_refuse : (b : Bool) (r : Refusal) (rs : List (Option Answer)) → P (refusal r) → Each rs → Each (refuse b r ∷ rs)
  each_refuse true r rs p e = (p, e)
  each_refuse false r rs p e = e

  each_header : (r : Header → Refusal) (f : Option Header) (rs : List (Option Answer)) → ((h : Header) → P (refusal (r h))) → Each rs → Each (refuse_at r f ∷ rs)
  each_header r (Some h) rs p e = (p h, e)
  each_header r None rs p e = e

  each_entry : (f : Option ℕ) (rs : List (Option Answer)) → ((i : ℕ) → f ≡ Some i → P (refusal (Crossed i))) → Each rs → Each (refuse_entry Crossed f ∷ rs)
  each_entry (Some i) rs p e = (p i refl, e)
  each_entry None rs p e = e

-- a crossed entry is one of the list
crossed_within : (k : ℕ) (p : List Entry) (i : ℕ) → first_from crossed k p ≡ Some i → i < k + length p
crossed_within k [] i e = absurd (let z : ◌≡◌ {A = ℕ} 0 1 = cc in omega arith)
crossed_within k (x ∷ p) i e = go (λ e. crossed_within (k + 1) p i e) (crossed x) e
  where
    taken : (a b : ℕ) → Some a ≡ Some b → a ≡ b
    taken a b e = cc

    go : (first_from crossed (k + 1) p ≡ Some i → i < k + 1 + length p) → (t : Bool) → cond t (Some k) (first_from crossed (k + 1) p) ≡ Some i → i < k + length (x ∷ p)
    go rest true e = omega (arith, taken k i e)
    go rest false e = omega (arith, rest e)

filing_length : (p : ℕ) (s : List ℕ) → p < 256 → count_in s < 65536 → length (filing_line p (filing_of p s)) ≤ 44
filing_length p s h g =
    first_has P (refuse (bad_party p) Party ∷ sizes) (accepted (count_in s ∷ []))
    (each_refuse P (bad_party p) Party sizes (plain Party (omega arith) (omega arith))
    (each_refuse P (missized s) Missized versions (plain Missized (omega arith) (omega arith))
    (each_refuse P (bad_version s) Version counts (plain Version (omega arith) (omega arith))
    (each_refuse P (bad_count s filed_limit) Count entries (plain Count (omega arith) (omega arith))
    (each_entry P (first_crossed (list_in s)) gaps (λ i e. plain (Crossed i) (omega arith) (entry_length i (below (crossed_within 0 (list_in s) i e) (length_entries s 0 (count_in s)) g)))
    (each_header P Gap (gap_of (list_in s)) [] (λ h. plain (Gap h) (omega arith) (omega arith)) tt))))))
    (filed_length p (count_in s) h g)
  where
    -- the checks from 5, 4, 3, 2 and 1 on
    gaps : List (Option Answer)
    gaps = refuse_at Gap (gap_of (list_in s)) ∷ []

    entries : List (Option Answer)
    entries = refuse_entry Crossed (first_crossed (list_in s)) ∷ gaps

    counts : List (Option Answer)
    counts = refuse (bad_count s filed_limit) Count ∷ entries

    versions : List (Option Answer)
    versions = refuse (bad_version s) Version ∷ counts

    sizes : List (Option Answer)
    sizes = refuse (missized s) Missized ∷ versions

    P : Answer → Type 0
    P a = length (filing_line p a) ≤ 44

    plain : (r : Refusal) → (refusal r).number < 12 → length (detail (refusal r)) ≤ 29 → length (filing_line p (refusal r)) ≤ 44
    plain r n d = subst (λ (l : List ℕ). length l ≤ 44) (line_refused p r) (refused_length p (refusal r) h n d)

    below : {i n m : ℕ} → i < 0 + n → n ≡ m → m < 65536 → i < 65536
    below a b c = omega arith

-- ---- the lines of the filings

count_below : (s : List ℕ) → Bytes s → count_in s < 65536
count_below s b = omega (arith, b 3, b 4)

none_filed : (k : ℕ) → filing_lines (filings_in k []) ≡ []
none_filed zero = refl
none_filed (suc k) = refl

filings_length : (k : ℕ) (s : List ℕ) → Bytes s → length (filing_lines (filings_in k s)) ≤ 15 * length s + 44
filings_length zero s b = omega arith
filings_length (suc k) [] b = omega arith
filings_length (suc k) (p ∷ s) b = go (filings_length k (drop (file_run s) s) (bytes_drop (file_run s) s bytes)) (ltb (length s) 2) refl
  where
    bytes : Bytes s
    bytes i = b (suc i)

    here : length (filing_line p (filing_of p (take (file_run s) s))) ≤ 44
    here = filing_length p (take (file_run s) s) (b 0) (count_below (take (file_run s) s) (bytes_take (file_run s) s bytes))

    go : length (filing_lines (filings_in k (drop (file_run s) s))) ≤ 15 * length (drop (file_run s) s) + 44 → (t : Bool) → ltb (length s) 2 ≡ t
        → length (filing_line p (filing_of p (take (file_run s) s)) ++ filing_lines (filings_in k (drop (file_run s) s))) ≤ 15 * length (p ∷ s) + 44
    go rest true e = simp length-append (omega (arith, here, ap length (ap (λ (l : List ℕ). filing_lines (filings_in k l)) (all (file_run s) (omega (arith, ltb-true (length s) 2 e))) ∙ none_filed k)))
      where
        all : (n : ℕ) → length s ≤ n → drop n s ≡ []
        all n h = drop_of_length-le s h
    go rest false e = simp length-append (omega (arith, here, rest, length-drop (file_run s) s, ltb-false (length s) 2 e))

-- ---- the lines of the merging

records_length : (n : ℕ) (s : List ℕ) → length (record_lines n s) ≤ 61 * n
records_length zero s = omega arith
records_length (suc n) s =
    simp length-append (omega (arith, records_length n (drop (record_size merged_version) s), hex_length (take (record_size merged_version) s), length-take (record_size merged_version) s))

merged_length : (n : ℕ) (file : List ℕ) → n ≤ list_limit → length (merging_lines (accepted (n ∷ file_size merged_version n ∷ []), file)) ≤ 15627
merged_length n file h = simp length-append (omega (arith, digits_within 2 n (omega arith), records_length n (drop head_size file)))

-- what a conflict names: ` P:E` with one digit for a party, and at most two for an entry of a filed list
names_length : (p : ℕ) (k : Book) (h : Header) → EachSlot (λ q. length q ≤ filed_limit) k → p + length k ≤ 10 → length (entries_text (catchers_from p k h)) ≤ 5 * length k
names_length p [] h few l = omega arith
names_length p (None ∷ k) h few l = omega (arith, names_length (p + 1) k h few (omega arith))
names_length p (Some q ∷ k) h few l = go (catcher q h) refl (names_length (p + 1) k h few.1 (omega arith))
  where
    go : (c : Option ℕ) → catcher q h ≡ c → length (entries_text (catchers_from (p + 1) k h)) ≤ 5 * length k → length (entries_text (entry_of p c ++ catchers_from (p + 1) k h)) ≤ 5 * length (Some q ∷ k)
    go None e rest = omega arith
    go (Some i) e rest = simp length-append (omega (arith, rest, digits_within 0 p (omega arith), digits_within 1 i (omega (arith, caught_below q h i e, few.0))))

conflict_length : (k : Book) (h : Header) (f : Option Header) → EachSlot (λ q. length q ≤ filed_limit) k → length k ≡ parties
    → length (refused_line 0 (also (refusal (Conflict h)) (entries_at k f))) ≤ 15627
conflict_length k h (Some g) few n = simp length-append (omega (arith, names_length 1 k g few (omega arith), digits_within 1 10 (omega arith), digits_within 0 0 (omega arith)))
conflict_length k h None few n = simp length-append (omega (arith, digits_within 1 10 (omega arith), digits_within 0 0 (omega arith)))

merging_length : (k : Book) → EachSlot (λ q. length q ≤ filed_limit) k → length k ≡ parties → (buffer : List ℕ) → length buffer ≡ file_size merged_version list_limit
    → length (merging_lines (merging_of k buffer)) ≤ 15627
merging_length k few-entries slots buffer e =
    merging_cases headers (in_force k) (λ r. length (merging_lines (naming k (ending_of r buffer))) ≤ 15627)
    (omega (arith, refused_length 0 (refusal Bare) (omega arith) (omega arith) (omega arith)))
    (omega (arith, refused_length 0 (refusal Crowded) (omega arith) (omega arith) (omega arith)))
    (λ h. conflict_length k h (conflict_of headers (in_force k)) few-entries slots)
    λ m. go m (ltb (length buffer) (file_size merged_version (length m))) refl
  where
    written : List Entry → Bool → Answer
    written m t = first_of (refuse t (Narrow (file_size merged_version (length m))) ∷ []) (accepted (length m ∷ file_size merged_version (length m) ∷ []))

    go : (m : List Entry) (t : Bool) → ltb (length buffer) (file_size merged_version (length m)) ≡ t
        → length (merging_lines (naming k (written m t, ifAccepted (written m t) (placed (file_of merged_version m) buffer) buffer))) ≤ 15627
    go m true t = omega (arith, refused_length 0 (refusal (Narrow (file_size merged_version (length m)))) (omega arith) (omega arith) (omega arith))
    go m false t = merged_length (length m) (placed (file_of merged_version m) buffer) (few (length m) (length buffer) e (ltb-false (length buffer) (file_size merged_version (length m)) t))
      where
        few : (n l : ℕ) → l ≡ file_size merged_version list_limit → file_size merged_version n ≤ l → n ≤ list_limit
        few n l e h = omega arith

-- ---- the report

pub report_fits : (input : List ℕ) → Bytes input → length (report_of input) ≤ report_size
unfolding report_of filings_of
report_fits input b = go (ltb input_limit (length input)) refl
  where
    book : Book
    book = book_after (filings_of input)

    go : (t : Bool) → ltb input_limit (length input) ≡ t → length (cond t (ascii "input too long\n") (lines_of (filings_of input))) ≤ report_size
    go true t = omega arith
    go false t =
        simp length-append
        (omega (arith, filings_length (length input) input b, merging_length book (all_few (filings_of input)) (all_slots (filings_of input)) merge_buffer (length-replicate {A = ℕ} (file_size merged_version list_limit) 0), ltb-false input_limit (length input) t))
