-- The bench after any list of calls holds the book that 01 reckons, and every list in the book is a filed one.
-- Assumes nothing.
use Rattle.std.specs.Prelude.{None, Option, Some}
use Prim.Native.Nat.{ℕ, zero, suc, ◌-◌, ◌≤◌}
use native.Mathlib.Omega.{arith}
use mathlib.Core.Path.{◌≡◌, refl, sym, ◌∙◌, ap, subst}
use mathlib.Core.Logic.{inl, inr}
use mathlib.Core.Bool.{Bool, true, false, cond}
use mathlib.Core.List.{List, [], ◌∷◌, ◌++◌, map}
use lib.ListN.{length, set, length-set}
use Rattle.policy.specs.declared.entry.Entry.{Entry}
use Rattle.policy.specs.Header.{headers}
use Rattle.policy.specs.Policy.{Covering}
use Rattle.policy.specs.Refusals.{is_accepted}
use Rattle.wire.specs.Format.{Bytes, filed_limit, count_in, list_in}
use Rattle.wire.proofs.Entries.{length_entries}
use Rattle.reconcile.specs.Crossproduct.{In, AllCovering}
use Rattle.bench.specs.declared.calls.Bench.{Bench}
use Rattle.bench.specs.Book.{parties, Book, empty_book, in_force}
use Rattle.bench.specs.Answers.{filing_of, withdrawal_of}
use Rattle.bench.specs.Held.{vacant_slot, slot_with, list_in_slot, book_of, open_bench, with_slot}
use Rattle.bench.specs.Calls.{Call, filing, withdrawal, merging, installing, trying, bench_step, bench_from, bench_after, book_step, book_from, book_after, FilesHave, AllBytes}
use Rattle.bench.specs.steps.Staged.{EachSlot}
use Rattle.bench.proofs.Filing.{Files, filing_tells, slot_holds}

-- ---- one call more

pub bench_more : (cs : List Call) (c : Call) → bench_after (cs ++ c ∷ []) ≡ bench_step (bench_after cs) c
unfolding bench_after
bench_more cs c = go open_bench cs
  where
    go : (b : Bench) (cs : List Call) → bench_from b (cs ++ c ∷ []) ≡ bench_step (bench_from b cs) c
    go b [] = refl
    go b (d ∷ cs) = go (bench_step b d) cs

-- ---- the bench holds the book

map_set : {A B : Type 0} (f : A → B) (l : List A) (i : ℕ) (a : A) → map f (set l i a) ≡ set (map f l) i (f a)
map_set f [] i a = refl
map_set f (x ∷ l) zero a = refl
map_set f (x ∷ l) (suc i) a = ap (f x ∷◌) (map_set f l i a)

-- a call does to the bench what it does to the book
step_holds : (b : Bench) (c : Call) → book_of (bench_step b c) ≡ book_step (book_of b) c
step_holds b (filing p s) = go (is_accepted (filing_of p s)) refl
  where
    go : (t : Bool) → is_accepted (filing_of p s) ≡ t → book_of (cond t (with_slot b p (slot_with s)) b) ≡ cond t (set (book_of b) (p - 1) (Some (list_in s))) (book_of b)
    go true e =
        map_set list_in_slot b.slots (p - 1) (slot_with s)
        ∙ ap (set (book_of b) (p - 1)) (slot_holds s (count_in s) (filing_tells p s e).file.good)
    go false e = refl
step_holds b (withdrawal p) = go (is_accepted (withdrawal_of (book_of b) p))
  where
    go : (t : Bool) → book_of (cond t (with_slot b p vacant_slot) b) ≡ cond t (set (book_of b) (p - 1) None) (book_of b)
    go true = map_set list_in_slot b.slots (p - 1) vacant_slot
    go false = refl
step_holds b (merging buffer) = refl
step_holds b (installing ranking buffer) = refl
step_holds b (trying p s buffer) = refl

from_holds : (b : Bench) (k : Book) (cs : List Call) → book_of b ≡ k → book_of (bench_from b cs) ≡ book_from k cs
from_holds b k [] e = e
from_holds b k (c ∷ cs) e = from_holds (bench_step b c) (book_step k c) cs (step_holds b c ∙ ap (λ (j : Book). book_step j c) e)

pub book_after_lem : (cs : List Call) → book_of (bench_after cs) ≡ book_after cs
unfolding bench_after book_after
book_after_lem cs = from_holds open_bench empty_book cs refl

-- one call more takes the book a step on
pub book_more : (cs : List Call) (c : Call) → book_after (cs ++ c ∷ []) ≡ book_step (book_after cs) c
book_more cs c =
    sym (book_after_lem (cs ++ c ∷ [])) ∙ ap book_of (bench_more cs c) ∙ step_holds (bench_after cs) c ∙ ap (λ (k : Book). book_step k c) (book_after_lem cs)

-- ---- every list in the book was filed

anything : (cs : List Call) → FilesHave (λ s. Unit {0}) cs
anything [] = tt
anything (filing p s ∷ cs) = (tt, anything cs)
anything (withdrawal p ∷ cs) = anything cs
anything (merging buffer ∷ cs) = anything cs
anything (installing ranking buffer ∷ cs) = anything cs
anything (trying p s buffer ∷ cs) = (tt, anything cs)

module _ (P : List Entry → Type 0) where
  put : (k : Book) (i : ℕ) (p : List Entry) → P p → EachSlot P k → EachSlot P (set k i (Some p))
  put [] i p a e = tt
  put (None ∷ k) zero p a e = (a, e)
  put (Some q ∷ k) zero p a e = (a, e.1)
  put (None ∷ k) (suc i) p a e = put k i p a e
  put (Some q ∷ k) (suc i) p a e = (e.0, put k i p a e.1)

  emptied : (k : Book) (i : ℕ) → EachSlot P k → EachSlot P (set k i None)
  emptied [] i e = tt
  emptied (None ∷ k) zero e = e
  emptied (Some q ∷ k) zero e = e.1
  emptied (None ∷ k) (suc i) e = emptied k i e
  emptied (Some q ∷ k) (suc i) e = (e.0, emptied k i e.1)

  pub in_force_lem : (k : Book) → EachSlot P k → (q : List Entry) → In q (in_force k) → P q
  in_force_lem [] e q i = absurd i
  in_force_lem (None ∷ k) e q i = in_force_lem k e q i
  in_force_lem (Some p ∷ k) e q (inl i) = subst P (sym i) e.0
  in_force_lem (Some p ∷ k) e q (inr i) = in_force_lem k e.1 q i

  module _ (Q : List ℕ → Type 0) (filed : (p : ℕ) (s : List ℕ) → Q s → Files p s → P (list_in s)) where
    step_keeps : (k : Book) (c : Call) → FilesHave Q (c ∷ []) → EachSlot P k → EachSlot P (book_step k c)
    step_keeps k (filing p s) b e = go (is_accepted (filing_of p s)) refl
      where
        go : (t : Bool) → is_accepted (filing_of p s) ≡ t → EachSlot P (cond t (set k (p - 1) (Some (list_in s))) k)
        go true a = put k (p - 1) (list_in s) (filed p s b.0 (filing_tells p s a)) e
        go false a = e
    step_keeps k (withdrawal p) b e = go (is_accepted (withdrawal_of k p))
      where
        go : (t : Bool) → EachSlot P (cond t (set k (p - 1) None) k)
        go true = emptied k (p - 1) e
        go false = e
    step_keeps k (merging buffer) b e = e
    step_keeps k (installing ranking buffer) b e = e
    step_keeps k (trying p s buffer) b e = e

    from_keeps : (k : Book) (cs : List Call) → FilesHave Q cs → EachSlot P k → EachSlot P (book_from k cs)
    from_keeps k [] b e = e
    from_keeps k (filing p s ∷ cs) b e = from_keeps (book_step k (filing p s)) cs b.1 (step_keeps k (filing p s) (b.0, tt) e)
    from_keeps k (withdrawal p ∷ cs) b e = from_keeps (book_step k (withdrawal p)) cs b (step_keeps k (withdrawal p) tt e)
    from_keeps k (merging buffer ∷ cs) b e = from_keeps k cs b e
    from_keeps k (installing ranking buffer ∷ cs) b e = from_keeps k cs b e
    from_keeps k (trying p s buffer ∷ cs) b e = from_keeps k cs b.1 e

    -- what every accepted filing's list has, every list in the book has after any list of calls
    each_slot : (cs : List Call) → FilesHave Q cs → EachSlot P (book_after cs)
    unfolding book_after
    each_slot cs b = from_keeps empty_book cs b tt

    all_in_force : (cs : List Call) → FilesHave Q cs → (q : List Entry) → In q (in_force (book_after cs)) → P q
    all_in_force cs b = in_force_lem (book_after cs) (each_slot cs b)

pub all_in_force_of : (P : List Entry → Type 0) → ((p : ℕ) (s : List ℕ) → Bytes s → Files p s → P (list_in s))
    → (cs : List Call) → AllBytes cs → (q : List Entry) → In q (in_force (book_after cs)) → P q
all_in_force_of P f cs b = all_in_force P Bytes f cs b

pub all_covering : (cs : List Call) → AllCovering headers (in_force (book_after cs))
all_covering cs = all_in_force (Covering headers) (λ s. Unit {0}) (λ p s b f. f.file.covering) cs (anything cs)

-- every list is as short as a filed one, and there is a slot for each party
pub all_few : (cs : List Call) → EachSlot (λ q. length q ≤ filed_limit) (book_after cs)
all_few cs = each_slot (λ q. length q ≤ filed_limit) (λ s. Unit {0}) (λ p s b f. few s f.file.good.most_is) cs (anything cs)
  where
    few : (s : List ℕ) → count_in s ≤ filed_limit → length (list_in s) ≤ filed_limit
    few s l = omega (arith, length_entries s 0 (count_in s))

pub all_slots : (cs : List Call) → length (book_after cs) ≡ parties
unfolding book_after
all_slots cs = go empty_book cs refl
  where
    cases : (t : Bool) (k : Book) (i : ℕ) (x : Option (List Entry)) → length k ≡ parties → length (cond t (set k i x) k) ≡ parties
    cases true k i x e = length-set k i x ∙ e
    cases false k i x e = e

    step : (k : Book) (c : Call) → length k ≡ parties → length (book_step k c) ≡ parties
    step k (filing p s) e = cases (is_accepted (filing_of p s)) k (p - 1) (Some (list_in s)) e
    step k (withdrawal p) e = cases (is_accepted (withdrawal_of k p)) k (p - 1) None e
    step k (merging buffer) e = e
    step k (installing ranking buffer) e = e
    step k (trying p s buffer) e = e

    go : (k : Book) (cs : List Call) → length k ≡ parties → length (book_from k cs) ≡ parties
    go k [] e = e
    go k (c ∷ cs) e = go (book_step k c) cs (step k c e)
