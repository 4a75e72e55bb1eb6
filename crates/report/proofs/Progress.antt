-- The filings of the input, one after the other: the bench, and the lines put so far.
-- Assumes nothing.
use Prim.Native.Nat.{ℕ, ◌-◌, ◌≤◌, ◌<◌}
use native.Mathlib.Omega.{arith}
use mathlib.Core.Path.{◌≡◌, refl, sym, ◌∙◌, ap}
use mathlib.Core.List.{List, [], ◌∷◌, ◌++◌, append-nil, append_assoc}
use lib.ListN.{length, get_or, take, drop}
use lib.Seq.{take_all}
use Rattle.policy.specs.Refusals.{Answer}
use Rattle.bench.specs.declared.calls.Bench.{Bench}
use Rattle.bench.specs.Answers.{filing_of}
use Rattle.bench.specs.Held.{open_bench}
use Rattle.bench.specs.Calls.{Call, filing, withdrawal, merging, installing, trying, bench_filed, bench_after}
use Rattle.bench.proofs.Trace.{bench_more}
use Rattle.report.specs.declared.page.Page.{Page}
use Rattle.report.specs.steps.Puts.{Puts}
use Rattle.report.specs.Report.{file_run, filings_of, filing_line, filing_lines}
use Rattle.report.proofs.Buffer.{none, more, same}
use Rattle.report.proofs.Framing.{first as first_of, none_left}

lines_more : (cs : List Call) (p : ℕ) (s : List ℕ) → filing_lines (cs ++ filing p s ∷ []) ≡ filing_lines cs ++ filing_line p (filing_of p s)
lines_more [] p s = append-nil (filing_line p (filing_of p s))
lines_more (filing q t ∷ cs) p s =
    ap (λ (l : List ℕ). filing_line q (filing_of q t) ++ l) (lines_more cs p s)
    ∙ sym (append_assoc (filing_line q (filing_of q t)) (filing_lines cs) (filing_line p (filing_of p s)))
lines_more (withdrawal q ∷ cs) p s = lines_more cs p s
lines_more (merging b ∷ cs) p s = lines_more cs p s
lines_more (installing k b ∷ cs) p s = lines_more cs p s
lines_more (trying q t b ∷ cs) p s = lines_more cs p s

-- the filings of the records before what is left are done: the bench is theirs, and their lines are put
pub record Progress (input : List ℕ) (first page : Page) (bench : Bench) (left : List ℕ) : Type 0 where
  pub done : List Call
  pub split : filings_of input ≡ done ++ filings_of left
  pub bench_is : bench ≡ bench_after done
  pub puts : Puts first page (filing_lines done)

pub begin : (input : List ℕ) (page : Page) (bench : Bench) → bench ≡ open_bench → Progress input page page bench input
unfolding bench_after
begin input page bench e = record { done = []; split = refl; bench_is = e; puts = none page }

-- one record more: its party, its file and what is behind it
pub filed_more : {first page after : Page} {bench next : Bench} {input : List ℕ} (left rest file behind : List ℕ) (n : ℕ) (answer : Answer)
    → Progress input first page bench left → 1 ≤ length left → rest ≡ take (length left - 1) (drop 1 left)
    → n ≡ file_run rest → file ≡ take n rest → behind ≡ drop n rest
    → answer ≡ filing_of (get_or left 0 0) file
    → next ≡ bench_filed bench (get_or left 0 0) file
    → Puts page after (filing_line (get_or left 0 0) answer)
    → Progress input first after next behind
filed_more [] rest file behind n answer p h r e f g a b l = absurd (omega arith)
filed_more {bench = bench} {next = next} (party ∷ rest') rest file behind n answer p h r e f g a b l = record {
  done = p.done ++ call ∷ [];
  split = p.split ∙ ap (p.done ++◌) (first_of party rest' ∙ parts) ∙ sym (append_assoc p.done (call ∷ []) (filings_of behind));
  bench_is = b ∙ ap (λ (b : Bench). bench_filed b party file) p.bench_is ∙ sym (bench_more p.done call);
  puts = same (more (same l (ap (filing_line party) a)) p.puts) (sym (lines_more p.done party file));
}
  where
    call : Call
    call = filing party file

    all : rest ≡ rest'
    all = r ∙ take_all _ rest' (omega arith)

    parts : filing party (take (file_run rest') rest') ∷ filings_of (drop (file_run rest') rest') ≡ call ∷ filings_of behind
    parts = cc all

-- all records are filed
module _ {input left : List ℕ} {first page : Page} {bench : Bench} (p : Progress input first page bench left) (h : length left < 1) where
  all_done : p.done ≡ filings_of input
  all_done = sym (p.split ∙ ap (p.done ++◌) (none_left left h) ∙ append-nil p.done)

  pub all_filed : bench ≡ bench_after (filings_of input)
  all_filed = p.bench_is ∙ ap bench_after all_done

  pub all_put : Puts first page (filing_lines (filings_of input))
  all_put = same p.puts (ap filing_lines all_done)
