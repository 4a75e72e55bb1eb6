-- What demand 3 says of a merging, of `merge_of`, over any set of headers.
-- Assumes nothing.
use Rattle.std.specs.Prelude.{None, Option, Some}
use Prim.Native.Nat.{ℕ, ◌≤◌}
use native.Mathlib.Omega.{arith}
use mathlib.Core.Path.{◌≡◌, refl, sym, ◌∙◌, ap, subst}
use mathlib.Core.Bool.{Bool, true, false, not, cond}
use mathlib.Core.List.{List, [], ◌∷◌, ◌++◌}
use lib.Dec.{leb}
use lib.ListN.{length}
use borrow.Author.Tests.{leb-true}
use Rattle.policy.specs.declared.header.Header.{Header}
use Rattle.policy.specs.declared.entry.Entry.{Entry}
use Rattle.policy.specs.declared.refusal.Refusal.TheVariants.{Bare, Crowded, Conflict}
use Rattle.policy.specs.Header.{Headers, among, before}
use Rattle.policy.specs.Least.{least}
use Rattle.policy.specs.Policy.{Allowed, allowed, is_caught, Covering, Refines, Implementable}
use Rattle.policy.proofs.Bool.{clash}
use Rattle.policy.proofs.Least.{agree, least_at, at_tells, none_tells}
use Rattle.wire.specs.Format.{list_limit}
use Rattle.reconcile.specs.Crossproduct.{AllCovering, Reconciles}
use Rattle.reconcile.specs.Rules.{no_header, same, is_empty, in_both, common_with, common_actions, permits, all_permit, cross, drop_empty, trimmed, Working, list, crowded, limited, next, next_all, working, has_empty, lacking, conflict_of, needless, struck_from, struck, Merging, refused, merged, finished, merge_of}
use Rattle.reconcile.proofs.Decide.{Witness, no_header-agree}
use Rattle.reconcile.proofs.Common.{common_reconciles, common_widest, common_caught, common_permits}
use Rattle.reconcile.proofs.Crossing.{cross_is}
use Rattle.reconcile.proofs.Drop.{trimmed_allows, EachCatching, shown, empty_is}
use Rattle.reconcile.proofs.Striking.{struck_allows, struck_irredundant}

-- ---- how many are left

struck_from-few : (hs : Headers) (front p : List Entry) → length (struck_from hs front p) ≤ length p
struck_from-few hs front [] = omega arith
struck_from-few hs front (e ∷ p) = go (struck_from hs (front ++ e ∷ []) p) (needless hs front e (struck_from hs (front ++ e ∷ []) p)) (struck_from-few hs (front ++ e ∷ []) p)
  where
    go : (back : List Entry) (b : Bool) → length back ≤ length p → length (cond b back (e ∷ back)) ≤ length (e ∷ p)
    go back true l = omega arith
    go back false l = omega arith

pub struck_few : (hs : Headers) (p : List Entry) → length (struck hs p) ≤ length p
struck_few hs p = struck_from-few hs [] p

-- ---- the working list

abbrev unlist : Working → List Entry
unlist (list w) = w
unlist crowded = []

list_inj : {v w : List Entry} → list v ≡ list w → v ≡ w
list_inj e = ap unlist e

pub crowded_list : {w : List Entry} → crowded ≡ list w → ⊥
crowded_list e = let z : ◌≡◌ {A = ℕ} 0 1 = cc in omega arith

pub next_all-crowded : (hs : Headers) (ps : List (List Entry)) → next_all hs crowded ps ≡ crowded
next_all-crowded hs [] = refl
next_all-crowded hs (p ∷ ps) = next_all-crowded hs ps

module _ (hs : Headers) where
  -- what holds of every trimmed list holds of the working list
  next_all-keeps : (P : List Entry → Type 0) → ((p : List Entry) → length (trimmed hs p) ≤ list_limit → P (trimmed hs p))
      → (p : List Entry) (ps : List (List Entry)) (w : List Entry) → next_all hs (limited (trimmed hs p)) ps ≡ list w → P w
  next_all-keeps P f p [] w e = go (leb (length (trimmed hs p)) list_limit) refl e
    where
      go : (b : Bool) → leb (length (trimmed hs p)) list_limit ≡ b → cond b (list (trimmed hs p)) crowded ≡ list w → P w
      go true l e = subst P (list_inj e) (f p (leb-true (length (trimmed hs p)) list_limit l))
      go false l e = absurd (crowded_list e)
  next_all-keeps P f p (q ∷ ps) w e = go (next_all-keeps P f (cross (trimmed hs p) q) ps w) (leb (length (trimmed hs p)) list_limit) e
    where
      go : (next_all hs (limited (trimmed hs (cross (trimmed hs p) q))) ps ≡ list w → P w)
          → (b : Bool) → next_all hs (next hs (cond b (list (trimmed hs p)) crowded) q) ps ≡ list w → P w
      go ih true e = ih e
      go ih false e = absurd (crowded_list (sym (next_all-crowded hs ps) ∙ e))

  -- each of its entries catches a header
  pub working_shown : (p : List Entry) (ps : List (List Entry)) (w : List Entry) → working hs p ps ≡ list w → EachCatching hs [] w
  working_shown = next_all-keeps (EachCatching hs []) λ p l. shown hs [] (drop_empty p)

  pub working_few : (p : List Entry) (ps : List (List Entry)) (w : List Entry) → working hs p ps ≡ list w → length w ≤ list_limit
  working_few = next_all-keeps (λ w. length w ≤ list_limit) λ p l. l

  next_all-allows : (p : List Entry) (ps : List (List Entry)) (w : List Entry) (h : Header) → among hs h ≡ true
      → next_all hs (limited (trimmed hs p)) ps ≡ list w → allowed w h ≡ common_with (allowed p h) ps h
  next_all-allows p [] w h a e = go (leb (length (trimmed hs p)) list_limit) e
    where
      go : (b : Bool) → cond b (list (trimmed hs p)) crowded ≡ list w → allowed w h ≡ allowed p h
      go true e = ap (λ (l : List Entry). allowed l h) (sym (list_inj e)) ∙ trimmed_allows hs p h a
      go false e = absurd (crowded_list e)
  next_all-allows p (q ∷ ps) w h a e = go (next_all-allows (cross (trimmed hs p) q) ps w h a) (leb (length (trimmed hs p)) list_limit) e
    where
      go : (next_all hs (limited (trimmed hs (cross (trimmed hs p) q))) ps ≡ list w → allowed w h ≡ common_with (allowed (cross (trimmed hs p) q) h) ps h)
          → (b : Bool) → next_all hs (next hs (cond b (list (trimmed hs p)) crowded) q) ps ≡ list w
          → allowed w h ≡ common_with (in_both (allowed p h) (allowed q h)) ps h
      go ih true e =
          ih e
          ∙ ap (λ (x : Allowed). common_with x ps h)
          (cross_is (trimmed hs p) q h ∙ ap (λ (x : Allowed). in_both x (allowed q h)) (trimmed_allows hs p h a))
      go ih false e = absurd (crowded_list (sym (next_all-crowded hs ps) ∙ e))

  -- it allows each header the common actions
  pub working_allows : (p : List Entry) (ps : List (List Entry)) (w : List Entry) → working hs p ps ≡ list w
      → (h : Header) → among hs h ≡ true → allowed w h ≡ common_actions (p ∷ ps) h
  working_allows p ps w e h a = next_all-allows p ps w h a e

  -- an entry of the working list has an empty set exactly if some header has no common action
  pub empty_lacking : (p : List Entry) (ps : List (List Entry)) (w : List Entry) → working hs p ps ≡ list w
      → has_empty w ≡ not (no_header hs (lacking (p ∷ ps)))
  empty_lacking p ps w e =
      empty_is hs w (working_shown p ps w e)
      ∙ ap not (no_header-agree hs (λ h. is_empty (allowed w h)) (lacking (p ∷ ps)) λ h a. ap is_empty (working_allows p ps w e h a))

  -- and the least such header is the least that the working list allows nothing
  pub rule3_least : (p : List Entry) (ps : List (List Entry)) (w : List Entry) → working hs p ps ≡ list w
      → least hs (λ h. is_empty (allowed w h)) ≡ conflict_of hs (p ∷ ps)
  rule3_least p ps w e = agree hs (λ h. is_empty (allowed w h)) (lacking (p ∷ ps)) λ h a. ap is_empty (working_allows p ps w e h a)

-- ---- what a merging can be

pub merging_cases : (hs : Headers) (ps : List (List Entry)) (P : Merging → Type 0) → P (refused Bare) → P (refused Crowded)
    → ((h : Header) → P (refused (Conflict h))) → ((m : List Entry) → P (merged m)) → P (merge_of hs ps)
merging_cases hs [] P b c k m = b
merging_cases hs (p ∷ ps) P b c k m = go (working hs p ps) (conflict_of hs (p ∷ ps))
  where
    go : (w : Working) (f : Option Header) → P (finished hs w f)
    go crowded f = c
    go (list w) (Some h) = k h
    go (list w) None = m (struck hs w)

-- ---- an accepted merging

pub record Merges (hs : Headers) (p : List Entry) (ps : List (List Entry)) (m : List Entry) : Type 0 where
  pub work : List Entry
  pub worked : working hs p ps ≡ list work
  pub no_conflict : conflict_of hs (p ∷ ps) ≡ None
  pub left : m ≡ struck hs work

abbrev pub unmerged : Merging → List Entry
unmerged (refused r) = []
unmerged (merged m) = m

pub merges : (hs : Headers) (p : List Entry) (ps : List (List Entry)) (m : List Entry) → merge_of hs (p ∷ ps) ≡ merged m → Merges hs p ps m
merges hs p ps m e = go (working hs p ps) refl (conflict_of hs (p ∷ ps)) refl e
  where
    go : (w : Working) → working hs p ps ≡ w → (c : Option Header) → conflict_of hs (p ∷ ps) ≡ c → finished hs w c ≡ merged m → Merges hs p ps m
    go (list w) u None v e = record { work = w; worked = u; no_conflict = v; left = sym (ap unmerged e) }
    go (list w) u (Some h) v e = absurd (let z : ◌≡◌ {A = ℕ} 0 1 = cc in omega arith)
    go crowded u c v e = absurd (let z : ◌≡◌ {A = ℕ} 0 1 = cc in omega arith)

module _ (hs : Headers) (p : List Entry) (ps : List (List Entry)) (m : List Entry) (e : merge_of hs (p ∷ ps) ≡ merged m) where
  -- each header is allowed exactly the common actions
  pub merged_allows : (h : Header) → among hs h ≡ true → allowed m h ≡ common_actions (p ∷ ps) h
  merged_allows h a =
      let r = merges hs p ps m e in
      ap (λ (l : List Entry). allowed l h) r.left ∙ struck_allows hs r.work h a ∙ working_allows hs p ps r.work r.worked h a

  -- action by action
  pub merged_permits : (k : ℕ) (h : Header) → among hs h ≡ true → permits k (allowed m h) ≡ all_permit k (p ∷ ps) h
  merged_permits k h a = ap (permits k) (merged_allows h a) ∙ common_permits k p ps h

  -- it refines every list in force
  pub merged_reconciles : Reconciles hs (p ∷ ps) m
  merged_reconciles = common_reconciles hs (p ∷ ps) m merged_allows

  -- every list that refines all those in force refines it
  pub merged_widest : (r : List Entry) → Reconciles hs (p ∷ ps) r → Refines hs r m
  merged_widest = common_widest hs p ps m merged_allows

  -- without any one entry some header is uncaught, or allowed a different set
  pub merged_irredundant : (front : List Entry) (d : Entry) (back : List Entry) → m ≡ front ++ d ∷ back
      → Witness hs (λ h. not (same (allowed (front ++ back) h) (allowed m h)))
  merged_irredundant front d back q =
      let r = merges hs p ps m e in
      subst (λ (l : List Entry). Witness hs (λ h. not (same (allowed (front ++ back) h) (allowed l h)))) (sym r.left)
      (struck_irredundant hs r.work front d back (sym r.left ∙ q))

  -- it is covering if all are
  pub merged_covers : AllCovering hs (p ∷ ps) → Covering hs m
  merged_covers f h a = ap is_caught (merged_allows h a) ∙ common_caught h p ps (λ q i. f q i h a)

  -- no header is left without an action
  pub merged_acts : Implementable hs m
  merged_acts h a q =
      let r = merges hs p ps m e in
      clash (ap is_empty (sym (merged_allows h a) ∙ q)) (none_tells hs (lacking (p ∷ ps)) r.no_conflict h a)

  -- it has no more entries than a file may have
  pub merged_few : length m ≤ list_limit
  merged_few =
      let r = merges hs p ps m e in
      subst (λ (l : List Entry). length l ≤ list_limit) (sym r.left) (fewer (length (struck hs r.work)) (length r.work) list_limit (struck_few hs r.work) (working_few hs p ps r.work r.worked))
    where
      fewer : (a b c : ℕ) → a ≤ b → b ≤ c → a ≤ c
      fewer a b c x y = omega arith

  -- and at least one, if there is a header and all lists are covering
  pub merged_some : (h : Header) → among hs h ≡ true → AllCovering hs (p ∷ ps) → 1 ≤ length m
  merged_some h a f = go m (merged_covers f h a)
    where
      go : (l : List Entry) → is_caught (allowed l h) ≡ true → 1 ≤ length l
      go [] c = clash c refl
      go (d ∷ l) c = omega arith

-- ---- conflict: exactly where the working list is not crowded and some header has no common action, and the least is named

pub record Conflicts (hs : Headers) (p : List Entry) (ps : List (List Entry)) (h : Header) : Type 0 where
  pub within : working hs p ps ≡ crowded → ⊥
  pub member : among hs h ≡ true
  pub empty : lacking (p ∷ ps) h ≡ true
  pub earliest : (g : Header) → among hs g ≡ true → before g h ≡ true → lacking (p ∷ ps) g ≡ false

module _ (hs : Headers) (p : List Entry) (ps : List (List Entry)) where
  pub conflict_tells : (h : Header) → merge_of hs (p ∷ ps) ≡ refused (Conflict h) → Conflicts hs p ps h
  conflict_tells h e = go (working hs p ps) refl (conflict_of hs (p ∷ ps)) refl e
    where
      go : (w : Working) → working hs p ps ≡ w → (c : Option Header) → conflict_of hs (p ∷ ps) ≡ c → finished hs w c ≡ refused (Conflict h) → Conflicts hs p ps h
      go crowded u c i e = absurd (let z : ◌≡◌ {A = ℕ} 0 1 = cc in omega arith)
      go (list w) u None i e = absurd (let z : ◌≡◌ {A = ℕ} 0 1 = cc in omega arith)
      go (list w) u (Some g) i e =
          let q : g ≡ h = cc in
          let t = at_tells hs (lacking (p ∷ ps)) h (i ∙ ap Some q) in
          record { within = λ r. crowded_list (sym r ∙ u); member = t.0; empty = t.1; earliest = t.2 }

  pub conflict_made : (h : Header) → Conflicts hs p ps h → merge_of hs (p ∷ ps) ≡ refused (Conflict h)
  conflict_made h c = ap (finished hs (working hs p ps)) (least_at hs (lacking (p ∷ ps)) h c.member c.empty c.earliest) ∙ go (working hs p ps) c.within
    where
      go : (w : Working) → (w ≡ crowded → ⊥) → finished hs w (Some h) ≡ refused (Conflict h)
      go (list w) r = refl
      go crowded r = absurd (r refl)

  -- a header without a common action makes a conflict, at it or at a lesser one
  pub conflict_some : (h : Header) → (working hs p ps ≡ crowded → ⊥) → among hs h ≡ true → lacking (p ∷ ps) h ≡ true → (g : Header) × (merge_of hs (p ∷ ps) ≡ refused (Conflict g))
  conflict_some h r a x = go (working hs p ps) refl (conflict_of hs (p ∷ ps)) refl
    where
      go : (w : Working) → working hs p ps ≡ w → (c : Option Header) → conflict_of hs (p ∷ ps) ≡ c → (g : Header) × (finished hs w c ≡ refused (Conflict g))
      go crowded u c i = absurd (r u)
      go (list w) u (Some g) i = (g, refl)
      go (list w) u None i = clash x (none_tells hs (lacking (p ∷ ps)) i h a)

  -- where there is none, and the working list is not crowded, the merging is accepted
  pub accepted_when : (working hs p ps ≡ crowded → ⊥) → ((h : Header) → among hs h ≡ true → lacking (p ∷ ps) h ≡ false) → (m : List Entry) × (merge_of hs (p ∷ ps) ≡ merged m)
  accepted_when r f = go (working hs p ps) refl (conflict_of hs (p ∷ ps)) refl
    where
      go : (w : Working) → working hs p ps ≡ w → (c : Option Header) → conflict_of hs (p ∷ ps) ≡ c → (m : List Entry) × (finished hs w c ≡ merged m)
      go crowded u c i = absurd (r u)
      go (list w) u (Some g) i = let t = at_tells hs (lacking (p ∷ ps)) g i in clash t.1 (f g t.0)
      go (list w) u None i = (struck hs w, refl)
