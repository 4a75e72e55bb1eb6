-- The lines of a merging's answer.
-- Assumes nothing.
use Rattle.reconcile.specs.declared.ending.Merged.{Merged}
use Rattle.std.specs.Prelude.{Option, Result, Err}
use Prim.Native.Nat.{ℕ}
use mathlib.Core.Path.{◌≡◌, sym, ◌∙◌, ap}
use mathlib.Core.Bool.{Bool, cond}
use mathlib.Core.List.{List, ◌++◌}
use lib.ListN.{get_or, drop}
use Rattle.policy.specs.declared.refusal.Refusal.{Refusal}
use Rattle.policy.specs.Refusals.{Answer, refusal}
use Rattle.policy.proofs.Refusals.{refusal_refuses}
use Rattle.wire.specs.Format.{head_size}
use Rattle.bench.specs.Book.{Book}
use Rattle.bench.specs.declared.calls.Bench.{Bench}
use Rattle.bench.specs.Answers.{also, named_from, merged_as, merging_of}
use Rattle.bench.specs.Held.{book_of}
use Rattle.bench.specs.Calls.{merging, CallResult, result_of}
use Rattle.report.specs.Text.{ascii, decimal}
use Rattle.report.specs.declared.page.Page.{Page}
use Rattle.report.specs.steps.Puts.{Puts}
use Rattle.report.specs.Report.{refused_line, record_lines, merging_lines}
use Rattle.report.proofs.Buffer.{same}

-- the answer of a merging and its file, as the contract has them
module _ (a : Result Merged Refusal) (ns : List (Option ℕ)) (r b : Bench) (file buffer : List ℕ) (c : ◌≡◌ {A = CallResult} (merged_as a ns, r, file) (result_of b (merging buffer))) where
  abbrev k : Book
  k = book_of b

  e : ◌≡◌ {A = Answer × List ℕ} (merged_as a ns, file) (merging_of k buffer)
  e = λ i. ((c i).0, (c i).2)

  module _ {before after : Page} where
    pub of_refused_merging : (r : Refusal) → a ≡ Err r → Puts before after (refused_line 0 (also (refusal r) (named_from 1 ns))) → Puts before after (merging_lines (merging_of k buffer))
    of_refused_merging r m p = same p (sym (line r) ∙ ap (λ (x : Result Merged Refusal). merging_lines (merged_as x ns, file)) (sym m) ∙ ap merging_lines e)
      where
        line : (r : Refusal) → merging_lines (also (refusal r) (named_from 1 ns), file) ≡ refused_line 0 (also (refusal r) (named_from 1 ns))
        line r =
            let vs = (refusal r).values ++ named_from 1 ns in
            ap (λ (t : Bool). cond t (ascii "merged " ++ decimal (get_or vs 0 0) ++ ascii "\n" ++ record_lines (get_or vs 0 0) (drop head_size file)) (refused_line 0 (also (refusal r) (named_from 1 ns))))
            (refusal_refuses r)
