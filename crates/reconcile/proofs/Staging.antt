-- The working list after the first party and after each next one.
-- Assumes nothing.
use Rattle.std.specs.Prelude.{None, Option, Some, IfSome}
use Prim.Native.Nat.{ℕ, ◌+◌, ◌*◌, ◌<◌, ◌≤◌, min}
use native.Mathlib.Omega.{arith}
use native.Mathlib.Numerals.{add-one}
use mathlib.Core.Path.{◌≡◌, refl, sym, ◌∙◌, ap, subst}
use mathlib.Core.Bool.{Bool, true, false, not, ◌&&◌}
use mathlib.Core.List.{List, [], ◌∷◌, ◌++◌}
use borrow.Author.Tests.{ltb-true, ltb-false}
use Rattle.policy.proofs.Bool.{clash}
use lib.ListN.{length, take, get_or, set}
use lib.Seq.{take-suc, take_all, paste}
use Rattle.policy.specs.declared.entry.Entry.{Entry}
use Rattle.policy.specs.Header.{Box, lies, Headers, headers}
use Rattle.policy.specs.Entry.{selector}
use Rattle.policy.specs.Policy.{missed}
use Rattle.policy.specs.steps.Rows.{row_size, rows_in, numbers_of}
use Rattle.wire.specs.Format.{filed_limit, list_limit, place_in, records_in, entries_from}
use Rattle.wire.specs.steps.Numbered.{entry_in}
use Rattle.wire.specs.Lists.{empty_entry}
use Rattle.wire.proofs.Sizes.{counted_entry}
use Rattle.wire.proofs.Entries.{length_entries, first_at}
use Rattle.reconcile.specs.declared.stage.Stage.{Stage}
use Rattle.reconcile.specs.Rules.{no_header, trimmed, Working, list, crowded, limited, next, next_all, working, conflict_of, settled, finished, merge_of}
use Rattle.reconcile.specs.steps.Pass.{offered_all}
use Rattle.reconcile.specs.steps.Stage.{working_in, working_held, crowded_in, stage_in, filed_in, added, added_all, ended}
use Rattle.reconcile.proofs.Pass.{offered_first}
use Rattle.reconcile.proofs.Keeping.{working_crowded, working_list, Keeps, keeps_shadowed, keeps_kept}
use Rattle.reconcile.proofs.Merging.{rule3_least}

-- ---- the first list

-- each entry that is read of a file is there
pub filed_entry : (s : List ℕ) (j total : ℕ) → total ≡ min (records_in s) filed_limit → j < total → place_in s (j + 1) ≤ length s
filed_entry s j total e l = counted_entry s j (omega arith)

first_more : (q : List Entry) (j : ℕ) → j < length q → take (j + 1) q ≡ take j q ++ get_or q j empty_entry ∷ []
first_more q j l = ap (λ (k : ℕ). take k q) (add-one j) ∙ take-suc q j empty_entry l

module _ (s rows : List ℕ) (es : List Entry) (n j m : ℕ) (e : Entry) (b : Box) (t : Bool) (k : Keeps rows es n (take j (entries_from s 0 m))) (l : j < m)
    (g : e ≡ entry_in s j) (x : b ≡ selector e) (c : t ≡ not (no_header headers λ h. missed (rows_in (take (row_size * n) rows)) h && lies b h)) where
  up : take (j + 1) (entries_from s 0 m) ≡ take j (entries_from s 0 m) ++ e ∷ []
  up =
      first_more (entries_from s 0 m) j (omega (arith, length_entries s 0 m))
      ∙ ap (λ (d : Entry). take j (entries_from s 0 m) ++ d ∷ []) (first_at s m j empty_entry l ∙ sym g)

  pub first_shadowed : t ≡ false → Keeps rows es n (take (j + 1) (entries_from s 0 m))
  first_shadowed q = subst (Keeps rows es n) (sym up) (keeps_shadowed rows es n (take j (entries_from s 0 m)) e k t b c x q)

  pub first_kept : (r : List ℕ) → t ≡ true → n < list_limit → r ≡ paste rows (row_size * n) (numbers_of e) row_size → Keeps r (set es n e) (n + 1) (take (j + 1) (entries_from s 0 m))
  first_kept r q f h = subst (Keeps r (set es n e) (n + 1)) (sym up) (keeps_kept rows es n (take j (entries_from s 0 m)) e k t b c x r q f h)

pub first_all : (s rows : List ℕ) (es : List Entry) (n j m : ℕ) → m ≡ min (records_in s) filed_limit → Keeps rows es n (take j (entries_from s 0 m)) → m ≤ j
    → working_in es n ≡ limited (trimmed headers (filed_in s))
first_all s rows es n j m e k l =
    working_list es n k.few
    ∙ sym k.model
    ∙ ap (offered_all headers (list [])) (take_all j (entries_from s 0 m) (omega (arith, length_entries s 0 m)))
    ∙ offered_first headers (entries_from s 0 m)
    ∙ ap (λ (n : ℕ). limited (trimmed headers (entries_from s 0 n))) e

-- ---- a stage more

module _ (s : Option Stage) (q : List Entry) where
  pub added_first : (v : Working) → s ≡ None → v ≡ limited (trimmed headers q) → Some v ≡ added headers (stage_in s) q
  added_first v e y = ap Some y ∙ ap (λ (s : Option Stage). added headers (stage_in s) q) (sym e)

  pub added_next : (v : Working) (x : Stage) → s ≡ Some x → x.count ≤ list_limit → v ≡ next headers (list (take x.count x.entries)) q → Some v ≡ added headers (stage_in s) q
  added_next v x e l y =
      ap Some (y ∙ ap (λ (w : Working). next headers w q) (sym (working_list x.entries x.count l)))
      ∙ ap (λ (s : Option Stage). added headers (stage_in s) q) (sym e)

-- a crowded list stays so
pub added_crowded : (s : Option Stage) (q : List Entry) (t : Bool) → t ≡ crowded_in s → t ≡ true → stage_in s ≡ added headers (stage_in s) q
added_crowded None q t e y = clash y e
added_crowded (Some x) q t e y = is ∙ sym (ap (λ (w : Option Working). added headers w q) is)
  where
    is : Some (working_held x) ≡ Some crowded
    is = ap Some (working_crowded x.entries x.count (ltb-true list_limit x.count (sym e ∙ y)))

-- one that is not has no more entries than it may
pub few_added : (s : Option Stage) (t : Bool) → t ≡ crowded_in s → t ≡ false → IfSome s (λ (x : Stage). x.count ≤ list_limit)
few_added None t e y = tt
few_added (Some x) t e y = ltb-false list_limit x.count (sym e ∙ y)

-- ---- the stages make the merging

added_all_lem : (hs : Headers) (w : Working) (ps : List (List Entry)) → added_all hs (Some w) ps ≡ Some (next_all hs w ps)
added_all_lem hs w [] = refl
added_all_lem hs w (p ∷ ps) = added_all_lem hs (next hs w p) ps

pub ended_merges : (hs : Headers) (ps : List (List Entry)) → ended hs (added_all hs None ps) ≡ merge_of hs ps
ended_merges hs [] = refl
ended_merges hs (p ∷ ps) = ap (ended hs) (added_all_lem hs (limited (trimmed hs p)) ps) ∙ go (working hs p ps) refl
  where
    go : (w : Working) → working hs p ps ≡ w → ended hs (Some w) ≡ finished hs w (conflict_of hs (p ∷ ps))
    go (list w) e = ap (λ c. settled hs c w) (rule3_least hs p ps w e)
    go crowded e = refl

-- ---- from one call to the next

added_snoc : (hs : Headers) (w : Option Working) (ps : List (List Entry)) (p : List Entry) → added_all hs w (ps ++ p ∷ []) ≡ added hs (added_all hs w ps) p
added_snoc hs w [] p = refl
added_snoc hs w (q ∷ ps) p = added_snoc hs (added hs w q) ps p

-- a working list of the lists ps, and one more
pub stages_next : (ps : List (List Entry)) (p : List Entry) (w v : Option Working) → w ≡ added_all headers None ps → v ≡ added headers w p
    → v ≡ added_all headers None (ps ++ p ∷ [])
stages_next ps p w v e f = f ∙ ap (λ (x : Option Working). added headers x p) e ∙ sym (added_snoc headers None ps p)

-- what it ends as is the merging of the lists
pub stages_end : (ps : List (List Entry)) (w : Option Working) → w ≡ added_all headers None ps → ended headers w ≡ merge_of headers ps
stages_end ps w e = ap (λ (x : Option Working). ended headers x) e ∙ ended_merges headers ps
