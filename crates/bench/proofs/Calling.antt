-- What the branches of the calls show: the answer, the bench handed back, and that it goes on with any list of calls that led here.
-- Assumes nothing.
use Rattle.reconcile.specs.declared.ending.Merged.{Merged}
use Rattle.std.specs.Prelude.{Result, Some, None, Option, Ok, Err}
use Prim.Native.Nat.{ℕ, ◌-◌, ◌<◌, ◌≤◌}
use native.Mathlib.Omega.{arith}
use mathlib.Core.Path.{◌≡◌, refl, sym, ◌∙◌, ap, subst}
use mathlib.Core.Bool.{Bool, true, false, not, cond}
use mathlib.Core.List.{List, [], ◌∷◌, ◌++◌, append-nil}
use lib.Dec.{eqb}
use lib.ListN.{length, get_or, set, replicate, get_or-map}
use borrow.Author.Tests.{eq-eqb, ne_eqb}
use Rattle.policy.specs.declared.refusal.Refusal.{Refusal}
use Rattle.policy.specs.declared.header.Header.{Header}
use Rattle.policy.specs.declared.refusal.Refusal.TheVariants.{Party, Vacant, Conflict, Ranking}
use Rattle.policy.specs.Header.{headers}
use Rattle.policy.specs.Ranking.{is_ranking}
use Rattle.policy.specs.Refusals.{Answer, refusal, accepted, is_accepted, refuse}
use Rattle.policy.proofs.Refusals.{refusal_refuses, turns_away, goes_past}
use Rattle.wire.specs.Format.{filed_limit, version_in, count_in, place_in}
use Rattle.wire.specs.Checks.{checked}
use Rattle.wire.proofs.Checks.{within_limits, none_outside, past_outside}
use Rattle.region.specs.ListChecks.{list_checks}
use Rattle.region.specs.steps.Covering.{list_checks_of}
use Rattle.region.proofs.ListChecks.{good_passes, passes_tell}
use Rattle.reconcile.specs.Rules.{Working, conflict_of, Merging, refused, merge_of}
use Rattle.reconcile.specs.Installing.{installed}
use Rattle.reconcile.specs.steps.Stage.{ended}
use Rattle.reconcile.specs.Ending as end
use Rattle.reconcile.specs.steps.Ending as said
use Rattle.reconcile.proofs.Staging.{stages_end}
use Rattle.reconcile.proofs.Installing.{refused_tells}
use Rattle.bench.specs.declared.slots.Slot.{Slot}
use Rattle.bench.specs.declared.calls.Bench.{Bench}
use Rattle.bench.specs.declared.calls.MergeResult.{MergeResult}
use Rattle.bench.specs.Book.{parties, Book, in_force}
use Rattle.bench.specs.Answers.{filed, bad_party, filing_of, withdrew, is_vacant, withdrawal_of, also, named_from, merged_as, naming, merging_of, installing_of}
use Rattle.bench.specs.steps.Naming.{said_by, ResultOf}
use Rattle.wire.proofs.Sizes.{records_most}
use Rattle.bench.specs.Held.{slot_size, vacant_slot, slot_with, list_in_slot, book_of, open_bench, with_slot, slot_list}
use Rattle.wire.specs.steps.Fits.{AllFit}
use Rattle.bench.specs.Calls.{Call, filing, withdrawal, merging, installing, bench_filed, bench_withdrawn, CallResult, result_of, bench_step, bench_after, book_after}
use Rattle.bench.specs.Demand3.{Demand3}
use Rattle.bench.specs.Installing.{Installing}
use Rattle.bench.specs.steps.Staged.{EachSlot, Staged}
use Rattle.bench.proofs.Trace.{bench_more, book_after_lem, all_covering, in_force_lem}
use Rattle.bench.proofs.Demand3.{conflict_of_lem, told_refused, demand_3}
use Rattle.bench.proofs.Naming.{said_with, said_beside}
use Rattle.bench.proofs.Installing.{no_ranking_keeps, installs}
use Rattle.bench.proofs.Fitting.{AllListsFit, reads_back}
use Rattle.bench.proofs.Slotting.{no_slot}

-- ---- a list of calls goes on

-- after any list of calls that leads to b, the call c leads to r
abbrev pub LeadsOn : Bench → Call → Bench → Type 0
LeadsOn b c r = (cs : List Call) → bench_after cs ≡ b → bench_after (cs ++ (c ∷ [])) ≡ r

pub leads_on : (b r : Bench) (c : Call) → r ≡ bench_step b c → LeadsOn b c r
leads_on b r c e cs q = bench_more cs c ∙ ap (λ (x : Bench). bench_step x c) q ∙ sym e

-- ---- open

pub opened : (v : Slot) → v ≡ vacant_slot → (record { slots = replicate 8 v } ≡ open_bench) × (bench_after [] ≡ record { slots = replicate 8 v })
unfolding bench_after
opened v e =
    let q : record { slots = replicate 8 v } ≡ open_bench = ap (λ (s : Slot). record { slots = replicate 8 s }) e in
    (q, sym q)

-- ---- file

abbrev pub FiledRight : Bench → ℕ → List ℕ → Result ℕ Refusal → Bench → Type 0
FiledRight b p s a r = (◌≡◌ {A = CallResult} (filed a, r, []) (result_of b (filing p s))) × LeadsOn b (filing p s) r

-- a refused filing, and an accepted one
filed_refused : (b : Bench) (p : ℕ) (s : List ℕ) (x : Refusal) → refusal x ≡ filing_of p s → FiledRight b p s (Err x) b
filed_refused b p s x e =
    let q : b ≡ bench_filed b p s = sym (ap (λ (t : Bool). cond t (with_slot b p (slot_with s)) b) (ap is_accepted (sym e) ∙ refusal_refuses x)) in
    (λ i. (e i, q i, []), leads_on b b (filing p s) q)

filed_accepted : (b : Bench) (p n : ℕ) (s : List ℕ) (slot : Slot) → accepted (n ∷ []) ≡ filing_of p s → slot ≡ slot_with s → FiledRight b p s (Ok n) (record { slots = set b.slots (p - 1) slot })
filed_accepted b p n s slot e f =
    let q : record { slots = set b.slots (p - 1) slot } ≡ bench_filed b p s =
    ap (with_slot b p) f ∙ sym (ap (λ (t : Bool). cond t (with_slot b p (slot_with s)) b) (ap is_accepted (sym e))) in
    (λ i. (e i, q i, []), leads_on b (record { slots = set b.slots (p - 1) slot }) (filing p s) q)

module _ (b : Bench) (p : ℕ) (s : List ℕ) where
  pub file_low : p < 1 → FiledRight b p s (Err Party) b
  file_low l = filed_refused b p s Party (turns_away (bad_party p) Party (list_checks s filed_limit) (accepted (count_in s ∷ [])) (none_outside parties p l))

  pub file_high : 1 ≤ p → 8 < p → FiledRight b p s (Err Party) b
  file_high m l = filed_refused b p s Party (turns_away (bad_party p) Party (list_checks s filed_limit) (accepted (count_in s ∷ [])) (past_outside parties p l))

  module _ (c : Result ℕ Refusal) (m : 1 ≤ p) (l : p ≤ 8) (e : checked c ≡ list_checks_of s filed_limit) where
    checks_decide : checked c ≡ filing_of p s
    unfolding list_checks_of
    checks_decide = goes_past (bad_party p) Party (list_checks s filed_limit) (accepted (count_in s ∷ [])) (checked c) (within_limits parties p m l) e

    pub file_refused : (x : Refusal) → c ≡ Err x → FiledRight b p s (Err x) b
    file_refused x q = filed_refused b p s x (ap checked (sym q) ∙ checks_decide)

    pub file_accepted : (n : ℕ) (slot : Slot) → c ≡ Ok n → slot ≡ slot_with s → FiledRight b p s (Ok n) (record { slots = set b.slots (p - 1) slot })
    file_accepted n slot q f = filed_accepted b p n s slot (ap checked (sym q) ∙ checks_decide) f

-- a good file fits a slot
pub good_fits : (s : List ℕ) (c : Result ℕ Refusal) (n : ℕ) → checked c ≡ list_checks_of s filed_limit → c ≡ Ok n → length s ≤ slot_size
good_fits s c n e q =
    let g = (passes_tell s filed_limit (good_passes s filed_limit c n e q)).good in
    small (length s) (count_in s) g.size g.most_is
  where
    small : (l n : ℕ) → l ≡ place_in s n → n ≤ filed_limit → l ≤ slot_size
    small l n e m = omega (arith, records_most (version_in s) n)

-- ---- withdraw

abbrev pub WithdrawnRight : Bench → ℕ → Result Unit Refusal → Bench → Type 0
WithdrawnRight b p a r = (◌≡◌ {A = CallResult} (withdrew a, r, []) (result_of b (withdrawal p))) × LeadsOn b (withdrawal p) r

withdrawn_refused : (b : Bench) (p : ℕ) (x : Refusal) → refusal x ≡ withdrawal_of (book_of b) p → WithdrawnRight b p (Err x) b
withdrawn_refused b p x e =
    let q : b ≡ bench_withdrawn b p = sym (ap (λ (t : Bool). cond t (with_slot b p vacant_slot) b) (ap is_accepted (sym e) ∙ refusal_refuses x)) in
    (λ i. (e i, q i, []), leads_on b b (withdrawal p) q)

vacant_is : (b : Bench) (i : ℕ) → is_vacant (get_or (book_of b) i None) ≡ eqb (get_or b.slots i no_slot).length 0
vacant_is b i = ap is_vacant (get_or-map list_in_slot b.slots i no_slot) ∙ go (eqb (get_or b.slots i no_slot).length 0)
  where
    go : (t : Bool) → is_vacant (cond t None (Some (slot_list (get_or b.slots i no_slot)))) ≡ t
    go true = refl
    go false = refl

module _ (b : Bench) (p : ℕ) where
  abbrev vacant : Bool
  vacant = is_vacant (get_or (book_of b) (p - 1) None)

  pub withdraw_low : p < 1 → WithdrawnRight b p (Err Party) b
  withdraw_low l = withdrawn_refused b p Party (turns_away (bad_party p) Party (refuse vacant Vacant ∷ []) (accepted []) (none_outside parties p l))

  pub withdraw_high : 1 ≤ p → 8 < p → WithdrawnRight b p (Err Party) b
  withdraw_high m l = withdrawn_refused b p Party (turns_away (bad_party p) Party (refuse vacant Vacant ∷ []) (accepted []) (past_outside parties p l))

  pub withdraw_vacant : 1 ≤ p → p ≤ 8 → (get_or b.slots (p - 1) no_slot).length ≡ 0 → WithdrawnRight b p (Err Vacant) b
  withdraw_vacant m l e =
      withdrawn_refused b p Vacant
      (goes_past (bad_party p) Party (refuse vacant Vacant ∷ []) (accepted []) (refusal Vacant) (within_limits parties p m l)
      (turns_away vacant Vacant [] (accepted []) (vacant_is b (p - 1) ∙ eq-eqb (get_or b.slots (p - 1) no_slot).length 0 e)))

  pub withdraw_done : (slot : Slot) → 1 ≤ p → p ≤ 8 → ((get_or b.slots (p - 1) no_slot).length ≡ 0 → ⊥) → slot ≡ vacant_slot
      → WithdrawnRight b p (Ok (tt {0})) (record { slots = set b.slots (p - 1) slot })
  withdraw_done slot m l n f =
      let e : accepted [] ≡ withdrawal_of (book_of b) p =
      goes_past (bad_party p) Party (refuse vacant Vacant ∷ []) (accepted []) (accepted []) (within_limits parties p m l)
      (goes_past vacant Vacant [] (accepted []) (accepted []) (vacant_is b (p - 1) ∙ ne_eqb (get_or b.slots (p - 1) no_slot).length 0 n) refl) in
      let q : record { slots = set b.slots (p - 1) slot } ≡ bench_withdrawn b p =
      ap (with_slot b p) f ∙ sym (ap (λ (t : Bool). cond t (with_slot b p vacant_slot) b) (ap is_accepted (sym e))) in
      (λ i. (e i, q i, []), leads_on b (record { slots = set b.slots (p - 1) slot }) (withdrawal p) q)

-- ---- merge

-- after any list of calls that leads to b, a call leads to n, and what it answers keeps to P with the book
abbrev pub Kept : Bench → Call → Bench → (Book → Type 0) → Type 0
Kept b c n P = (cs : List Call) → bench_after cs ≡ b → (bench_after (cs ++ (c ∷ [])) ≡ n) × P (book_after cs)

abbrev pub MergedRight : Bench → List ℕ → MergeResult → List ℕ → Type 0
MergedRight b buffer r after =
    (◌≡◌ {A = CallResult} (merged_as r.answer r.named, r.bench, after) (result_of b (merging buffer)))
    × Kept b (merging buffer) r.bench (λ k. Demand3 k buffer (merged_as r.answer r.named) after)

abbrev pub InstalledRight : Bench → List ℕ → List ℕ → MergeResult → List ℕ → Type 0
InstalledRight b ranking buffer r after =
    (◌≡◌ {A = CallResult} (merged_as r.answer r.named, r.bench, after) (result_of b (installing ranking buffer)))
    × Kept b (installing ranking buffer) r.bench (λ k. Installing ranking k buffer (merged_as r.answer r.named) after)

-- the test of the ranking
pub tested : (ranking : List ℕ) (t : Bool) → t ≡ is_ranking ranking → t ≡ true → is_ranking ranking ≡ true
tested ranking t r n = sym r ∙ n

-- the book that 01 reckons is the bench's
book_is : (b : Bench) (cs : List Call) → bench_after cs ≡ b → book_of b ≡ book_after cs
book_is b cs c = sym (ap book_of c) ∙ book_after_lem cs

-- a call that leaves the bench, and whose answer and buffer are `of` the book: what is shown of these for the book is shown of the call
module _ (b n : Bench) (a : Answer) (after : List ℕ) (call : Call) (unchanged : n ≡ b) (of : Book → Answer × List ℕ) (P : Book → Answer → List ℕ → Type 0)
    (step : result_of b call ≡ ((of (book_of b)).0, b, (of (book_of b)).1)) (q : ◌≡◌ {A = Answer × List ℕ} (a, after) (of (book_of b)))
    (shown : (cs : List Call) → bench_after cs ≡ b → P (book_after cs) (of (book_after cs)).0 (of (book_after cs)).1) where
  right : (◌≡◌ {A = CallResult} (a, n, after) (result_of b call)) × Kept b call n (λ k. P k a after)
  right = (
    (λ i. ((q i).0, unchanged i, (q i).1)) ∙ sym step,
    λ cs c. (
      leads_on b n call (unchanged ∙ sym (ap (λ (r : CallResult). r.1) step)) cs c,
      subst (λ (y : Answer × List ℕ). P (book_after cs) y.0 y.1) (sym (q ∙ ap of (book_is b cs c))) (shown cs c),
    ),
  )

module _ (b : Bench) (buffer after : List ℕ) (w : Option Working) (e : Staged (book_of b) w) (x : Result Merged Refusal) (r : MergeResult) (of : ResultOf b x r) where
  merges_as : ended headers w ≡ merge_of headers (in_force (book_of b))
  merges_as = stages_end (in_force (book_of b)) w e.0

  lists_fit : (cs : List Call) → bench_after cs ≡ b → AllListsFit (in_force (book_after cs))
  lists_fit cs c = in_force_lem AllFit (book_after cs) (subst (EachSlot AllFit) (book_is b cs c) e.1)

  -- the answer names what it is asked to, if the merging y is refused for conflict only where that of the book is
  names_asked : (y : Merging) → ((h : Header) → y ≡ refused (Conflict h) → merge_of headers (in_force (book_of b)) ≡ refused (Conflict h))
      → said.ending x after ≡ end.ending_of y buffer → ◌≡◌ {A = Answer × List ℕ} (merged_as r.answer r.named, after) (naming (book_of b) (end.ending_of y buffer))
  names_asked y only f =
      ap (λ (a : Answer). (a, after)) (ap (λ (a : Result Merged Refusal). merged_as a r.named) of.answer ∙ said_with x r.named ∙ ap (also (said_by x)) (of.names found))
      ∙ ap (naming (book_of b)) (said_beside x after ∙ f)
    where
      found : (h : Header) → x ≡ Err (Conflict h) → conflict_of headers (in_force (book_of b)) ≡ Some h
      found h q =
          conflict_of_lem (in_force (book_of b)) h
          (only h (told_refused buffer y (Conflict h) (sym (ap (λ (y : Answer × List ℕ). y.0) f) ∙ ap (λ (m : Result Merged Refusal). (said.ending m after).0) q) λ z. omega arith))

  pub merge_right : said.ending x after ≡ end.ending_of (ended headers w) buffer → MergedRight b buffer r after
  merge_right f =
      right b r.bench (merged_as r.answer r.named) after (merging buffer) of.same (λ k. merging_of k buffer) (λ k. Demand3 k buffer) refl
      (names_asked (merge_of headers (in_force (book_of b))) (λ h q. q) (f ∙ ap (λ (y : Merging). end.ending_of y buffer) merges_as))
      λ cs c. demand_3 (book_after cs) buffer (all_covering cs) (reads_back (in_force (book_after cs)) (lists_fit cs c))

  pub install_right : (ranking : List ℕ) → is_ranking ranking ≡ true
      → said.ending x after ≡ end.ending_of (installed headers ranking (ended headers w)) buffer → InstalledRight b ranking buffer r after
  install_right ranking is f =
      right b r.bench (merged_as r.answer r.named) after (installing ranking buffer) of.same (λ k. installing_of k ranking buffer) (λ k. Installing ranking k buffer) refl
      (names_asked (installed headers ranking (merge_of headers (in_force (book_of b)))) (λ h q. refused_tells headers ranking (merge_of headers (in_force (book_of b))) (Conflict h) q)
      (f ∙ ap (λ (y : Merging). end.ending_of (installed headers ranking y) buffer) merges_as)
      ∙ ap (λ (u : Bool). naming (book_of b) (end.ending_of (cond u (installed headers ranking (merge_of headers (in_force (book_of b)))) (refused Ranking)) buffer)) (sym is))
      λ cs c. installs ranking (book_after cs) buffer (all_covering cs) (lists_fit cs c)

-- ---- a refusal beside which nothing is named

pub refused_plainly : (x : Refusal) (ns : List (Option ℕ)) → named_from 1 ns ≡ [] → merged_as (Err x) ns ≡ refusal x
refused_plainly x ns e = ap (also (refusal x)) e ∙ ap (λ (vs : List ℕ). record { number = (refusal x).number; values = vs }) (append-nil (refusal x).values)

-- ---- install: no ranking

pub install_refused : (b : Bench) (ranking buffer : List ℕ) (t : Bool) (x : MergeResult) → t ≡ is_ranking ranking → t ≡ false → x.bench ≡ b → merged_as x.answer x.named ≡ refusal Ranking
    → InstalledRight b ranking buffer x buffer
install_refused b ranking buffer t x r n same told =
    right b x.bench (merged_as x.answer x.named) buffer (installing ranking buffer) same (λ k. installing_of k ranking buffer) (λ k. Installing ranking k buffer) refl
    (ap (λ (a : Answer). (a, buffer)) told
    ∙ ap (λ (u : Bool). naming (book_of b) (end.ending_of (cond u (installed headers ranking (merge_of headers (in_force (book_of b)))) (refused Ranking)) buffer)) (sym no))
    λ cs c. subst (λ (u : Bool). let y = naming (book_after cs) (end.ending_of (cond u (installed headers ranking (merge_of headers (in_force (book_after cs)))) (refused Ranking)) buffer) in Installing ranking (book_after cs) buffer y.0 y.1) (sym no)
    (no_ranking_keeps ranking (book_after cs) buffer no)
  where
    no : is_ranking ranking ≡ false
    no = sym r ∙ n
