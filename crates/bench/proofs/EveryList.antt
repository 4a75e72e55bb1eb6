-- Demands 1 and 3, and what is promised of installing and of trying, over every list of calls from an opening, of any length.
-- Assumes nothing.
use Prim.Native.Nat.{ℕ}
use mathlib.Core.Path.{◌≡◌, refl, sym, ap, subst}
use mathlib.Core.Bool.{Bool, true, false, cond}
use mathlib.Core.List.{List, [], ◌∷◌, ◌++◌}
use lib.ListN.{length, take, drop}
use Rattle.policy.specs.Header.{headers}
use Rattle.policy.specs.Refusals.{Answer, is_accepted}
use Rattle.wire.specs.Format.{count_in}
use Rattle.wire.proofs.Records.{entries_fit}
use Rattle.wire.specs.steps.Fits.{AllFit}
use Rattle.reconcile.specs.Rules.{merge_of}
use Rattle.reconcile.specs.Installing.{install_of}
use Rattle.bench.specs.declared.calls.Bench.{Bench}
use Rattle.bench.specs.Book.{Book, in_force}
use Rattle.bench.specs.Answers.{filing_of, merging_of, installing_of}
use Rattle.bench.specs.Held.{vacant_slot, slot_with, book_of, open_bench, with_slot}
use Rattle.bench.specs.Calls.{Call, filing, withdrawal, merging, installing, trying, bench_filed, trying_of, result_of, answer_to, bench_step, lent_after, lent_to, bench_from, bench_after, results_from, results_of, book_step, book_after, AllBytes}
use Rattle.bench.specs.Demand3.{Demand3}
use Rattle.bench.specs.Installing.{Installing}
use Rattle.bench.specs.Trying.{Trying}
use Rattle.bench.proofs.Trace.{bench_more, book_after_lem, book_more, all_covering, all_in_force_of, all_slots}
use Rattle.bench.proofs.Demand3.{demand_3, left_alone}
use Rattle.bench.proofs.Fitting.{AllListsFit, reads_back}
use Rattle.bench.proofs.Installing.{installs}
use Rattle.bench.proofs.Trying.{tried_by, filed_keeps, not_filed_keeps}

-- demand 1: a refused call changes neither the bench nor a lent byte
pub refused_changes_nothing : (b : Bench) (c : Call) → is_accepted (answer_to b c) ≡ false → (bench_step b c ≡ b) × (lent_after b c ≡ lent_to c)
refused_changes_nothing b (filing p s) e = (ap (λ (t : Bool). cond t (with_slot b p (slot_with s)) b) e, refl)
refused_changes_nothing b (withdrawal p) e = (ap (λ (t : Bool). cond t (with_slot b p vacant_slot) b) e, refl)
refused_changes_nothing b (merging buffer) e = (refl, left_alone buffer (merge_of headers (in_force (book_of b))) e)
refused_changes_nothing b (installing ranking buffer) e = (refl, left_alone buffer (install_of headers ranking (in_force (book_of b))) e)
refused_changes_nothing b (trying p s buffer) e = (refl, go (is_accepted (filing_of p s)) e)
  where
    on_filed : Answer × List ℕ
    on_filed = merging_of (book_of (bench_filed b p s)) buffer

    go : (t : Bool) → is_accepted (cond t on_filed (filing_of p s, buffer)).0 ≡ false → (cond t on_filed (filing_of p s, buffer)).1 ≡ buffer
    go true e = left_alone buffer (merge_of headers (in_force (book_of (bench_filed b p s)))) e
    go false e = refl

-- the calls before some are handed bytes if all are
bytes_before : (xs ys : List Call) → AllBytes (xs ++ ys) → AllBytes xs
bytes_before [] ys b = tt
bytes_before (filing p s ∷ xs) ys b = (b.0, bytes_before xs ys b.1)
bytes_before (withdrawal p ∷ xs) ys b = bytes_before xs ys b
bytes_before (merging m ∷ xs) ys b = bytes_before xs ys b
bytes_before (installing k m ∷ xs) ys b = bytes_before xs ys b
bytes_before (trying p s m ∷ xs) ys b = (b.0, bytes_before xs ys b.1)

-- and the numbers of the lists in force fit their widths
all_fit : (cs : List Call) → AllBytes cs → AllListsFit (in_force (book_after cs))
all_fit cs a = all_in_force_of AllFit (λ p s b f. entries_fit s 0 (count_in s) b) cs a

-- a merging after calls that are handed bytes
merging_keeps : (cs : List Call) (buffer : List ℕ) → AllBytes cs → Demand3 (book_after cs) buffer (merging_of (book_of (bench_after cs)) buffer).0 (merging_of (book_of (bench_after cs)) buffer).1
merging_keeps cs buffer a =
    subst (λ (k : Book). Demand3 (book_after cs) buffer (merging_of k buffer).0 (merging_of k buffer).1) (sym (book_after_lem cs))
    (demand_3 (book_after cs) buffer (all_covering cs) (reads_back (in_force (book_after cs)) (all_fit cs a)))

-- demand 3: every merging in every list of calls keeps to it, for the book that 01 reckons from the calls before it
pub every_merging : (calls earlier later : List Call) (buffer : List ℕ) → AllBytes calls → calls ≡ earlier ++ merging buffer ∷ later
    → Demand3 (book_after earlier) buffer (answer_to (bench_after earlier) (merging buffer)) (lent_after (bench_after earlier) (merging buffer))
every_merging calls earlier later buffer a e = merging_keeps earlier buffer (bytes_before earlier (merging buffer ∷ later) (subst AllBytes e a))

-- and every installing to what 02 promises of it
pub every_installing : (calls earlier later : List Call) (ranking buffer : List ℕ) → AllBytes calls → calls ≡ earlier ++ installing ranking buffer ∷ later
    → Installing ranking (book_after earlier) buffer (answer_to (bench_after earlier) (installing ranking buffer)) (lent_after (bench_after earlier) (installing ranking buffer))
every_installing calls earlier later ranking buffer a e =
    subst (λ (k : Book). Installing ranking (book_after earlier) buffer (installing_of k ranking buffer).0 (installing_of k ranking buffer).1) (sym (book_after_lem earlier))
    (installs ranking (book_after earlier) buffer (all_covering earlier) (all_fit earlier (bytes_before earlier (installing ranking buffer ∷ later) (subst AllBytes e a))))

-- and every trial
pub every_trial : (calls earlier later : List Call) (p : ℕ) (s buffer : List ℕ) → AllBytes calls → calls ≡ earlier ++ trying p s buffer ∷ later
    → Trying p s (book_after earlier) buffer (answer_to (bench_after earlier) (trying p s buffer)) (lent_after (bench_after earlier) (trying p s buffer))
every_trial calls earlier later p s buffer a e = go (is_accepted (filing_of p s)) refl
  where
    b : Bench
    b = bench_after earlier

    k : Book
    k = book_after earlier

    -- the calls before the trial, and the filing
    filed : List Call
    filed = earlier ++ filing p s ∷ []

    bytes_filed : (xs : List Call) → AllBytes (xs ++ trying p s buffer ∷ later) → AllBytes (xs ++ filing p s ∷ [])
    bytes_filed [] c = (c.0, tt)
    bytes_filed (filing q t ∷ xs) b = (b.0, bytes_filed xs b.1)
    bytes_filed (withdrawal q ∷ xs) b = bytes_filed xs b
    bytes_filed (merging m ∷ xs) b = bytes_filed xs b
    bytes_filed (installing k m ∷ xs) b = bytes_filed xs b
    bytes_filed (trying q t m ∷ xs) b = (b.0, bytes_filed xs b.1)

    on_filed : Answer × List ℕ
    on_filed = merging_of (book_of (bench_filed b p s)) buffer

    demand : Demand3 (book_step k (filing p s)) buffer on_filed.0 on_filed.1
    demand =
        subst (λ (j : Book). Demand3 j buffer on_filed.0 on_filed.1) (book_more earlier (filing p s))
        (subst (λ (n : Bench). Demand3 (book_after filed) buffer (merging_of (book_of n) buffer).0 (merging_of (book_of n) buffer).1) (bench_more earlier (filing p s))
        (merging_keeps filed buffer (bytes_filed earlier (subst AllBytes e a))))

    Keeps : Answer × List ℕ → Type 0
    Keeps r = Trying p s k buffer r.0 r.1

    go : (t : Bool) → is_accepted (filing_of p s) ≡ t → Keeps (trying_of b p s buffer)
    go true y = subst Keeps (sym (tried_by b p s buffer true y)) (filed_keeps p s buffer k on_filed.0 on_filed.1 (all_slots earlier) y demand)
    go false n = subst Keeps (sym (tried_by b p s buffer false n)) (not_filed_keeps p s buffer k (filing_of p s) n refl)

-- a trial put anywhere in a list of calls changes no other answer, no bench and no buffer: the calls hand back what they do without it, and the trial its own between them
pub trial_leaves_others : (earlier later : List Call) (p : ℕ) (s buffer : List ℕ)
    → results_of (earlier ++ trying p s buffer ∷ later)
    ≡ take (length earlier) (results_of (earlier ++ later)) ++ result_of (bench_after earlier) (trying p s buffer) ∷ drop (length earlier) (results_of (earlier ++ later))
unfolding results_of bench_after
trial_leaves_others earlier later p s buffer = go open_bench earlier
  where
    go : (b : Bench) (xs : List Call)
        → results_from b (xs ++ trying p s buffer ∷ later)
        ≡ take (length xs) (results_from b (xs ++ later)) ++ result_of (bench_from b xs) (trying p s buffer) ∷ drop (length xs) (results_from b (xs ++ later))
    go b [] = refl
    go b (x ∷ xs) = ap (result_of b x ∷◌) (go (bench_step b x) xs)

-- and the calls leave the bench that they do without it
pub trial_leaves_bench : (earlier later : List Call) (p : ℕ) (s buffer : List ℕ) → bench_after (earlier ++ trying p s buffer ∷ later) ≡ bench_after (earlier ++ later)
unfolding bench_after
trial_leaves_bench earlier later p s buffer = go open_bench earlier
  where
    go : (b : Bench) (xs : List Call) → bench_from b (xs ++ trying p s buffer ∷ later) ≡ bench_from b (xs ++ later)
    go b [] = refl
    go b (x ∷ xs) = go (bench_step b x) xs
