-- What the search, the merging, the installing and the trial hand back for each answer.
-- Assumes nothing.
use Rattle.reconcile.specs.declared.ending.Merged.{Merged}
use Rattle.std.specs.Prelude.{Result, Some, Option, Ok, Err, None}
use Prim.Native.Nat.{ℕ, ◌+◌, ◌≤◌, ◌<◌}
use mathlib.Core.Path.{◌≡◌, sym, ◌∙◌, ap, ap₂}
use mathlib.Core.Bool.{Bool, cond}
use mathlib.Core.List.{List, ◌++◌}
use lib.Dec.{eqb}
use lib.ListN.{length, get_or}
use borrow.Author.Tests.{lt-ltb, le-ltb, eq-eqb, ne_eqb}
use Rattle.policy.specs.declared.entry.Entry.{Entry}
use Rattle.policy.specs.declared.refusal.Refusal.{Refusal}
use Rattle.policy.specs.Entry.{selector}
use Rattle.policy.specs.Refusals.{Answer, refusal, numbers}
use Rattle.policy.specs.Sides.{box_of}
use Rattle.policy.proofs.Refusals.{refusal_refuses}
use Rattle.wire.specs.Format.{merged_version, record_size, entry_at, header_put}
use Rattle.region.specs.declared.search.FoundHeader.{FoundHeader}
use Rattle.region.specs.declared.search.Want.{Want}
use Rattle.region.specs.declared.search.Want.TheVariants as want
use Rattle.region.specs.Search.{search_of, searched}
use Rattle.bench.specs.declared.calls.Bench.{Bench}
use Rattle.bench.specs.Answers.{named_from, merged_as}
use Rattle.bench.specs.Calls.{Call, CallResult, result_of, answer_to, lent_after, bench_after}
use Rattle.report.specs.Report.{filings_of}
use Rattle.measured.specs.steps.Numbers.{merge_number, wanted, found_result, search_result, measured_search}

-- a number and a buffer
abbrev pub Handed : Type 0
Handed = ℕ × List ℕ

-- ---- the search

pub wants_uncaught : (w v : ℕ) → w ≡ 0 → want.Uncaught ≡ wanted w v
wants_uncaught w v e = sym (ap (λ (t : Bool). cond t want.Uncaught (cond (eqb w 1) (want.CaughtBy v) (want.Differs v))) (eq-eqb w 0 e))

pub wants_caught : (w v : ℕ) → (w ≡ 0 → ⊥) → w ≡ 1 → want.CaughtBy v ≡ wanted w v
wants_caught w v n e = sym (ap₂ (λ (t u : Bool). cond t want.Uncaught (cond u (want.CaughtBy v) (want.Differs v))) (ne_eqb w 0 n) (eq-eqb w 1 e))

pub wants_other : (w v : ℕ) → (w ≡ 0 → ⊥) → (w ≡ 1 → ⊥) → want.Differs v ≡ wanted w v
wants_other w v n m = sym (ap₂ (λ (t u : Bool). cond t want.Uncaught (cond u (want.CaughtBy v) (want.Differs v))) (ne_eqb w 0 n) (ne_eqb w 1 m))

module _ (file entry buffer : List ℕ) (w v : ℕ) where
  pub no_record : (k : ℕ) → k ≡ record_size merged_version → length entry < k → ◌≡◌ {A = Handed} (512, buffer) (measured_search file entry w v buffer)
  unfolding measured_search
  no_record k e l = sym (ap (λ (t : Bool). cond t (512, buffer) (search_result (search_of file (selector (entry_at merged_version entry 0)) (wanted w v)) buffer)) (lt-ltb (length entry) (record_size merged_version) (rw e at l)))

  module _ (b : List ℕ) (e : Entry) (x : Want) (s : Result (Option FoundHeader) Refusal) (k : ℕ) (size : k ≡ record_size merged_version) (long : k ≤ length entry) (read : e ≡ entry_at merged_version entry 0) (sides : box_of b 0 ≡ selector e) (is : x ≡ wanted w v)
      (says : searched s ≡ search_of file (box_of b 0) x) where
    answers : ◌≡◌ {A = Handed} (search_result (searched s) buffer) (measured_search file entry w v buffer)
    unfolding measured_search
    answers =
        ap (λ (a : Answer). search_result a buffer) (says ∙ ap₂ (search_of file) (sides ∙ ap selector read) is)
        ∙ sym (ap (λ (t : Bool). cond t (512, buffer) (search_result (search_of file (selector (entry_at merged_version entry 0)) (wanted w v)) buffer)) (le-ltb (length entry) (record_size merged_version) (rw size at long)))

    pub finds_none : (f : Option FoundHeader) → s ≡ Ok f → f ≡ None → ◌≡◌ {A = Handed} (0, buffer) (measured_search file entry w v buffer)
    finds_none f q e = ap (λ (s : Result (Option FoundHeader) Refusal). search_result (searched s) buffer) (sym (q ∙ ap Ok e)) ∙ answers

    pub finds : (f : Option FoundHeader) (g : FoundHeader) (after : List ℕ) → s ≡ Ok f → f ≡ Some g → after ≡ header_put (numbers g.header) buffer → ◌≡◌ {A = Handed} (1, after) (measured_search file entry w v buffer)
    finds f g after q e p = ap (λ (b : List ℕ). (1, b)) p ∙ ap (λ (s : Result (Option FoundHeader) Refusal). search_result (searched s) buffer) (sym (q ∙ ap Ok e)) ∙ answers

    pub refuses : (r : Refusal) (n : ℕ) → s ≡ Err r → n ≡ (refusal r).number → ◌≡◌ {A = Handed} (256 + n, buffer) (measured_search file entry w v buffer)
    refuses r n q m =
        ap (λ (i : ℕ). (256 + i, buffer)) m
        ∙ sym (ap (λ (t : Bool). cond t (found_result (refusal r).values buffer) (256 + (refusal r).number, buffer)) (refusal_refuses r))
        ∙ ap (λ (s : Result (Option FoundHeader) Refusal). search_result (searched s) buffer) (sym q)
        ∙ answers

-- ---- mergings, installings and trials

pub merge_counted : (a : Result Merged Refusal) (d : Merged) → a ≡ Ok d → (ns : List (Option ℕ)) → d.count ≡ merge_number (merged_as a ns)
merge_counted a d q ns = ap (λ (a : Result Merged Refusal). merge_number (merged_as a ns)) (sym q)

pub merge_refused : (a : Result Merged Refusal) (r : Refusal) (n : ℕ) → a ≡ Err r → n ≡ (refusal r).number → (ns : List (Option ℕ)) → 256 + n ≡ merge_number (merged_as a ns)
merge_refused a r n q m ns =
    ap (256 +◌) m
    ∙ sym (ap (λ (t : Bool). cond t (get_or ((refusal r).values ++ named_from 1 ns) 0 0) (256 + (refusal r).number)) (refusal_refuses r))
    ∙ ap (λ (a : Result Merged Refusal). merge_number (merged_as a ns)) (sym q)

-- what a call on the bench of the filings hands back
pub handed : (input file : List ℕ) (c : Call) (n : ℕ) (a : Result Merged Refusal) (ns : List (Option ℕ)) (b next : Bench) → b ≡ bench_after (filings_of input) → ◌≡◌ {A = CallResult} (merged_as a ns, next, file) (result_of b c)
    → ((ns : List (Option ℕ)) → n ≡ merge_number (merged_as a ns)) → ◌≡◌ {A = Handed} (n, file) (merge_number (answer_to (bench_after (filings_of input)) c), lent_after (bench_after (filings_of input)) c)
handed input file c n a ns b next filed says q =
    ap (λ (i : ℕ). (i, file)) (q ns) ∙ ap (λ (x : CallResult). (merge_number x.0, x.2)) (says ∙ ap (λ (b : Bench). result_of b c) filed)
