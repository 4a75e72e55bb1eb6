-- What a trial shows, by the contracts of filing and merging alone.
-- Assumes nothing.
use Rattle.std.specs.Prelude.{Result, None, Some, Ok, Err}
use Prim.Native.Nat.{ℕ, zero, suc, ◌-◌, ◌<◌}
use native.Mathlib.Omega.{arith}
use mathlib.Core.Path.{◌≡◌, refl, sym, ◌∙◌, ap, subst}
use mathlib.Core.Logic.{inl, inr}
use mathlib.Core.Bool.{Bool, true, false, cond}
use mathlib.Core.List.{List, [], ◌∷◌, ◌++◌}
use lib.ListN.{length, set}
use Rattle.policy.specs.declared.entry.Entry.{Entry}
use Rattle.policy.specs.declared.refusal.Refusal.{Refusal}
use Rattle.policy.specs.Refusals.{Answer, refusal, is_accepted}
use Rattle.policy.proofs.Bool.{clash}
use Rattle.policy.proofs.Refusals.{refusal_refuses}
use Rattle.wire.specs.Format.{list_in}
use Rattle.wire.specs.Answers.{ifAccepted}
use Rattle.reconcile.specs.Crossproduct.{In}
use Rattle.bench.specs.declared.calls.Bench.{Bench}
use Rattle.bench.specs.declared.calls.FileResult.{FileResult}
use Rattle.bench.specs.declared.calls.MergeResult.{MergeResult}
use Rattle.bench.specs.Book.{parties, Book, in_force}
use Rattle.bench.specs.Answers.{filed, filing_of, merged_as, merging_of}
use Rattle.bench.specs.Held.{book_of}
use Rattle.bench.specs.Calls.{filing, merging, trying, bench_filed, trying_of, CallResult, result_of, book_step, book_after}
use Rattle.bench.specs.Demand3.{Demand3}
use Rattle.bench.specs.Trying.{Trying}
use Rattle.bench.proofs.Filing.{filing_tells}
use Rattle.bench.proofs.Trace.{book_more, all_slots}
use Rattle.bench.proofs.Calling.{Kept, FiledRight, MergedRight, leads_on}

-- ---- by whether the filing is accepted

module _ (b : Bench) (p : ℕ) (s buffer : List ℕ) where
  pub tried_by : (t : Bool) → is_accepted (filing_of p s) ≡ t → trying_of b p s buffer ≡ cond t (merging_of (book_of (bench_filed b p s)) buffer) (filing_of p s, buffer)
  tried_by t e = ap (λ (u : Bool). cond u (merging_of (book_of (bench_filed b p s)) buffer) (filing_of p s, buffer)) e

-- ---- what it keeps to

-- a list that is put in a slot is in force
stands : (k : Book) (i : ℕ) (q : List Entry) → i < length k → In q (in_force (set k i (Some q)))
stands [] i q l = absurd (omega arith)
stands (None ∷ k) zero q l = inl refl
stands (Some r ∷ k) zero q l = inl refl
stands (None ∷ k) (suc i) q l = stands k i q (omega arith)
stands (Some r ∷ k) (suc i) q l = inr (stands k i q (omega arith))

module _ (p : ℕ) (s buffer : List ℕ) (k : Book) (answer : Answer) where
  pub not_filed_keeps : is_accepted (filing_of p s) ≡ false → answer ≡ filing_of p s → Trying p s k buffer answer buffer
  not_filed_keeps n e = record { not_filed = λ q. (e, refl); as_filed = λ q. clash q n; tried_in_force = λ q. clash q n }

  pub filed_keeps : (after : List ℕ) → length k ≡ parties → is_accepted (filing_of p s) ≡ true → Demand3 (book_step k (filing p s)) buffer answer after → Trying p s k buffer answer after
  filed_keeps after l y d = record {
    not_filed = λ q. clash y q;
    as_filed = λ q. d;
    tried_in_force = λ q. subst (λ (t : Bool). In (list_in s) (in_force (cond t (set k (p - 1) (Some (list_in s))) k))) (sym y) (stands k (p - 1) (list_in s) (place (length k) l));
  }
    where
      place : (n : ℕ) → n ≡ parties → p - 1 < n
      place n e = let f = filing_tells p s y in omega (arith, f.low, f.high)

-- ---- the two calls of a trial

abbrev pub TriedRight : Bench → ℕ → List ℕ → List ℕ → MergeResult → List ℕ → Type 0
TriedRight b p s buffer r after =
    (◌≡◌ {A = CallResult} (merged_as r.answer r.named, r.bench, after) (result_of b (trying p s buffer)))
    × Kept b (trying p s buffer) r.bench (λ k. Trying p s k buffer (merged_as r.answer r.named) after)

module _ (b n : Bench) (p : ℕ) (s buffer : List ℕ) (a : Result ℕ Refusal) (f : FiledRight b p s a n) where
  answers : filed a ≡ filing_of p s
  answers = ap (λ (r : CallResult). r.0) f.0

  pub trial_refused : (x : Refusal) (r : MergeResult) → a ≡ Err x → r.bench ≡ b → merged_as r.answer r.named ≡ refusal x → TriedRight b p s buffer r buffer
  trial_refused x r e same told = (
    (λ i. (says i, same i, buffer)) ∙ ap (λ (y : Answer × List ℕ). (y.0, b, y.1)) (sym (tried_by b p s buffer false no)),
    λ cs c. (leads_on b r.bench (trying p s buffer) same cs c, not_filed_keeps p s buffer (book_after cs) (merged_as r.answer r.named) no says),
  )
    where
      refuses : refusal x ≡ filing_of p s
      refuses = ap filed (sym e) ∙ answers

      no : is_accepted (filing_of p s) ≡ false
      no = ap is_accepted (sym refuses) ∙ refusal_refuses x

      says : merged_as r.answer r.named ≡ filing_of p s
      says = told ∙ refuses

  pub trial_merged : (i : ℕ) (m : MergeResult) (after : List ℕ) → a ≡ Ok i → MergedRight n buffer m after
      → TriedRight b p s buffer (record { bench = b; answer = m.answer; named = m.named }) after
  trial_merged i m after e right = (
    (λ j. ((right.0 j).0, b, (right.0 j).2))
        ∙ ap (λ (n : Bench). ((merging_of (book_of n) buffer).0, b, (merging_of (book_of n) buffer).1)) (ap (λ (r : CallResult). r.1) f.0)
        ∙ ap (λ (y : Answer × List ℕ). (y.0, b, y.1)) (sym (tried_by b p s buffer true yes)),
    λ cs c. (
      leads_on b b (trying p s buffer) refl cs c,
      filed_keeps p s buffer (book_after cs) (merged_as m.answer m.named) after (all_slots cs) yes
          (subst (λ (k : Book). Demand3 k buffer (merged_as m.answer m.named) after) (book_more cs (filing p s)) (right.1 (cs ++ filing p s ∷ []) (f.1 cs c)).1),
    ),
  )
    where
      yes : is_accepted (filing_of p s) ≡ true
      yes = ap is_accepted (sym (ap filed (sym e) ∙ answers))

-- ---- the same of the contracts of the three calls

-- what a trial answers and leaves in its buffer is filing's answer where filing refuses, and else what a merging answers and leaves there on the bench that
-- filing handed back; its own bench is as it was
pub trial_is_filing_and_merging : (b : Bench) (p : ℕ) (s buffer : List ℕ) (f : FileResult) (m t : MergeResult) (after tried : List ℕ)
    → ◌≡◌ {A = CallResult} (filed f.answer, f.bench, []) (result_of b (filing p s))
    → ◌≡◌ {A = CallResult} (merged_as m.answer m.named, m.bench, after) (result_of f.bench (merging buffer))
    → ◌≡◌ {A = CallResult} (merged_as t.answer t.named, t.bench, tried) (result_of b (trying p s buffer))
    → ◌≡◌ {A = CallResult} (merged_as t.answer t.named, t.bench, tried)
    (ifAccepted (filed f.answer) (merged_as m.answer m.named, b, after) (filed f.answer, b, buffer))
trial_is_filing_and_merging b p s buffer f m t after tried files merges tries =
    tries ∙ sym ((λ i. ifAccepted (files i).0 ((merged i).0, b, (merged i).1) ((files i).0, b, buffer)) ∙ beside (is_accepted (filing_of p s)))
  where
    on_filed : Answer × List ℕ
    on_filed = merging_of (book_of (bench_filed b p s)) buffer

    merged : ◌≡◌ {A = Answer × List ℕ} (merged_as m.answer m.named, after) on_filed
    merged = (λ i. ((merges i).0, (merges i).2)) ∙ ap (λ (n : Bench). merging_of (book_of n) buffer) (ap (λ (r : CallResult). r.1) files)

    beside : (y : Bool) → ◌≡◌ {A = CallResult} (cond y (on_filed.0, b, on_filed.1) (filing_of p s, b, buffer))
        ((cond y on_filed (filing_of p s, buffer)).0, b, (cond y on_filed (filing_of p s, buffer)).1)
    beside true = refl
    beside false = refl
