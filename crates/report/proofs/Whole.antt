-- The report put together, and in a long enough buffer nothing of it is cut off.
-- Assumes nothing.
use Prim.Native.Nat.{ℕ, ◌+◌, ◌≤◌, ◌<◌, min}
use native.Mathlib.Nat.{sub-zero, zero-add, min-eq_left}
use native.Mathlib.Omega.{arith}
use mathlib.Core.Path.{◌≡◌, refl, sym, ◌∙◌, ap, ap₂}
use mathlib.Core.Bool.{Bool, cond}
use mathlib.Core.List.{List, ◌++◌}
use lib.ListN.{length, take, drop}
use lib.Seq.{take_all, take_at}
use borrow.Author.Tests.{lt-ltb, le-ltb}
use Rattle.policy.proofs.Conjunctions.{paired}
use Rattle.wire.specs.Format.{Bytes}
use Rattle.bench.specs.declared.calls.Bench.{Bench}
use Rattle.bench.specs.Book.{Book}
use Rattle.bench.specs.Answers.{merging_of}
use Rattle.bench.specs.Held.{book_of}
use Rattle.bench.specs.Calls.{bench_after}
use Rattle.bench.proofs.Trace.{book_after_lem}
use Rattle.report.specs.Text.{ascii, with_text}
use Rattle.report.specs.declared.page.Page.{Page}
use Rattle.report.specs.steps.Printed.{Printed}
use Rattle.report.specs.steps.Puts.{Puts}
use Rattle.report.specs.Report.{input_limit, filings_of, filing_lines, merging_lines, merge_buffer, lines_of, report_of, report_size}
use Rattle.report.proofs.Buffer.{more, same}
use Rattle.report.proofs.Length.{report_fits}

too_long : (input : List ℕ) → input_limit < length input → ascii "input too long\n" ≡ report_of input
unfolding report_of
too_long input h = sym (ap (λ (t : Bool). cond t (ascii "input too long\n") (lines_of (filings_of input))) (lt-ltb input_limit (length input) h))

all_lines : (input : List ℕ) → length input ≤ input_limit → lines_of (filings_of input) ≡ report_of input
unfolding report_of
all_lines input h = sym (ap (λ (t : Bool). cond t (ascii "input too long\n") (lines_of (filings_of input))) (le-ltb input_limit (length input) h))

-- the lines of the merging stand behind those of the filings
lines_put : {a b d : Page} (input : List ℕ) (bench : Bench) → bench ≡ bench_after (filings_of input)
    → Puts a b (filing_lines (filings_of input)) → Puts b d (merging_lines (merging_of (book_of bench) merge_buffer)) → Puts a d (lines_of (filings_of input))
lines_put input bench e f m =
    more (same m (ap (λ (k : Book). merging_lines (merging_of k merge_buffer)) (ap book_of e ∙ book_after_lem (filings_of input)))) f

-- the whole text stands at the start of a buffer that has room for it
whole : {out after : List ℕ} {next : ℕ} (s : List ℕ) → Printed out 0 s after next → length s ≤ length out → take next after ≡ s
whole {out} {after} {next} s p h =
    ap₂ take (p.end ∙ ap (λ (n : ℕ). min n (length out)) (zero-add (length s)) ∙ min-eq_left h)
    (p.contents ∙ ap (λ (l : List ℕ). l ++ drop (0 + length s) out) (ap (λ (n : ℕ). take n s) (sub-zero (length out)) ∙ take_all (length out) s h))
    ∙ take_at s (drop (0 + length s) out) (length s) refl

pub all_put : {a b d : Page} (input : List ℕ) (bench : Bench) → length input ≤ input_limit → bench ≡ bench_after (filings_of input)
    → Puts a b (filing_lines (filings_of input)) → Puts b d (merging_lines (merging_of (book_of bench) merge_buffer)) → Puts a d (report_of input)
all_put input bench h e f m = same (lines_put input bench e f m) (all_lines input h)

pub too_long_put : {a b : Page} (input : List ℕ) → input_limit < length input → Puts a b (ascii "input too long\n") → Puts a b (report_of input)
too_long_put input h p = same p (too_long input h)

-- what the contract says of the buffer
module _ {out after : List ℕ} {next : ℕ} (input : List ℕ) where
  pub buffer_is : Printed out 0 (report_of input) after next
      → ◌≡◌ {A = ℕ × List ℕ} (next, after) (min (length (report_of input)) (length out), with_text out 0 (report_of input))
  buffer_is p = paired (p.end ∙ ap (λ (n : ℕ). min n (length out)) (zero-add (length (report_of input)))) p.contents

  pub starts : Bytes input → Printed out 0 (report_of input) after next → report_size ≤ length out → take next after ≡ report_of input
  starts b p h = whole (report_of input) p (long (length (report_of input)) (length out) (report_fits input b) h)
    where
      long : (n m : ℕ) → n ≤ report_size → report_size ≤ m → n ≤ m
      long n m a b = omega arith
