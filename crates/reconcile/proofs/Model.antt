-- The merging by searches that compute, and that it is the merging.
-- Assumes nothing.
use Rattle.std.specs.Prelude.{None, Option, Some}
use Rattle.policy.specs.declared.header.Header.{Header}
use mathlib.Core.Path.{◌≡◌, refl, sym, ◌∙◌, ap, ap₂, fun_ext}
use mathlib.Core.Bool.{Bool, true, false, cond, ◌&&◌, and_comm}
use mathlib.Core.List.{List, [], ◌∷◌, ◌++◌}
use Rattle.policy.specs.declared.entry.Entry.{Entry}
use Rattle.policy.specs.Header.{Headers, everything}
use Rattle.policy.specs.declared.refusal.Refusal.TheVariants.{Bare, Crowded, Conflict}
use Rattle.policy.specs.Least.{least, least_in}
use Rattle.policy.specs.Entry.{selector, matches}
use Rattle.policy.specs.Policy.{allowed, missed}
use Rattle.region.specs.declared.treated.Sets.TheVariants.{Same, Other}
use Rattle.region.specs.steps.Treated.{wanted}
use Rattle.region.proofs.Model.{seek, seek_is, sought, asked, never, answers_judged, answers_behind, answers_missed}
use Rattle.reconcile.specs.Rules.{is_nothing, no_header, is_empty, cross, shadowed, trimmed, Working, list, crowded, limited, next, next_all, working, conflict_of, needless, strike, struck_from, Merging, refused, merged, settled, finished, merge_of}
use Rattle.reconcile.proofs.Judged.{differs_judged, empty_judged}
use Rattle.reconcile.proofs.Pass.{kept_from, kept_trims}
use Rattle.reconcile.proofs.Striking.{needless_is}
use Rattle.reconcile.proofs.Merging.{rule3_least}

-- ---- the searches

abbrev shadowed_by : Headers → List Entry → Entry → Bool
shadowed_by hs front e = is_nothing (seek hs (asked never front) true (selector e))

abbrev needless_by : Headers → List Entry → Entry → List Entry → Bool
needless_by hs front e back = is_nothing (seek hs (asked never front ++ asked (wanted (Other e.actions)) back) true (selector e))

abbrev empty_by : Headers → List Entry → Option Header
empty_by hs w = seek hs (asked (wanted (Same 0)) w) false everything

-- ---- the merging

abbrev kept_by : Headers → List Entry → List Entry → List Entry
kept_by hs w [] = w
kept_by hs w (e ∷ p) = cond (shadowed_by hs w e) (kept_by hs w p) (kept_by hs (w ++ e ∷ []) p)

abbrev struck_by : Headers → List Entry → List Entry → List Entry
struck_by hs front [] = []
struck_by hs front (e ∷ p) = strike_by (struck_by hs (front ++ e ∷ []) p)
  where
    strike_by : List Entry → List Entry
    strike_by back = cond (needless_by hs front e back) back (e ∷ back)

abbrev next_by : Headers → Working → List Entry → Working
next_by hs (list w) p = limited (kept_by hs [] (cross w p))
next_by hs crowded p = crowded

abbrev next_all_by : Headers → Working → List (List Entry) → Working
next_all_by hs w [] = w
next_all_by hs w (p ∷ ps) = next_all_by hs (next_by hs w p) ps

abbrev settled_by : Headers → Option Header → List Entry → Merging
settled_by hs (Some h) w = refused (Conflict h)
settled_by hs None w = merged (struck_by hs [] w)

abbrev finished_by : Headers → Working → Merging
finished_by hs (list w) = settled_by hs (empty_by hs w) w
finished_by hs crowded = refused Crowded

abbrev pub merge_by : Headers → List (List Entry) → Merging
merge_by hs [] = refused Bare
merge_by hs (p ∷ ps) = finished_by hs (next_all_by hs (limited (kept_by hs [] p)) ps)

-- ---- the searches are the rules' tests

module _ (hs : Headers) where
  shadowed_is : (front : List Entry) (e : Entry) → shadowed hs front e ≡ shadowed_by hs front e
  unfolding no_header least_in
  shadowed_is front e =
      ap is_nothing
      (ap (least hs) (fun_ext λ h. and_comm (missed front h) (matches e h) ∙ ap (matches e h &&◌) (answers_missed front h))
      ∙ seek_is hs (asked never front) true (selector e))

  needless_by-is : (front : List Entry) (e : Entry) (back : List Entry) → needless hs front e back ≡ needless_by hs front e back
  unfolding no_header least_in
  needless_by-is front e back =
      needless_is hs front e back
      ∙ ap is_nothing
      (ap (least hs) (fun_ext λ h.
      differs_judged front e back h
      ∙ ap (λ (t : Bool). matches e h && (missed front h && t)) (answers_judged (Other e.actions) true back h)
      ∙ ap (matches e h &&◌) (answers_behind front (asked (wanted (Other e.actions)) back) true h))
      ∙ seek_is hs (asked never front ++ asked (wanted (Other e.actions)) back) true (selector e))

  empty_by-is : (w : List Entry) → least hs (λ h. is_empty (allowed w h)) ≡ empty_by hs w
  empty_by-is w = sought hs (λ h. is_empty (allowed w h)) (asked (wanted (Same 0)) w) false λ h. empty_judged (allowed w h) ∙ answers_judged (Same 0) false w h

  -- ---- the computed merging is the merging

  kept_by-is : (w p : List Entry) → kept_from hs w p ≡ kept_by hs w p
  kept_by-is w [] = refl
  kept_by-is w (e ∷ p) =
      ap (λ (b : Bool). cond b (kept_from hs w p) (kept_from hs (w ++ e ∷ []) p)) (shadowed_is w e)
      ∙ ap₂ (cond (shadowed_by hs w e)) (kept_by-is w p) (kept_by-is (w ++ e ∷ []) p)

  struck_by-is : (front p : List Entry) → struck_from hs front p ≡ struck_by hs front p
  struck_by-is front [] = refl
  struck_by-is front (e ∷ p) =
      ap (strike hs front e) (struck_by-is (front ++ e ∷ []) p)
      ∙ ap (λ (b : Bool). cond b (struck_by hs (front ++ e ∷ []) p) (e ∷ struck_by hs (front ++ e ∷ []) p)) (needless_by-is front e (struck_by hs (front ++ e ∷ []) p))

  trimmed_is : (p : List Entry) → trimmed hs p ≡ kept_by hs [] p
  trimmed_is p = sym (kept_trims hs p) ∙ kept_by-is [] p

  next_by-is : (w : Working) (p : List Entry) → next hs w p ≡ next_by hs w p
  next_by-is (list w) p = ap limited (trimmed_is (cross w p))
  next_by-is crowded p = refl

  next_all_by-is : (w : Working) (ps : List (List Entry)) → next_all hs w ps ≡ next_all_by hs w ps
  next_all_by-is w [] = refl
  next_all_by-is w (p ∷ ps) = next_all_by-is (next hs w p) ps ∙ ap (λ (v : Working). next_all_by hs v ps) (next_by-is w p)

  pub merge_by-is : (ps : List (List Entry)) → merge_of hs ps ≡ merge_by hs ps
  merge_by-is [] = refl
  merge_by-is (p ∷ ps) =
      go (working hs p ps) refl
      ∙ ap (finished_by hs) (next_all_by-is (limited (trimmed hs p)) ps ∙ ap (λ (l : List Entry). next_all_by hs (limited l) ps) (trimmed_is p))
    where
      settle : (c : Option Header) (w : List Entry) → settled hs c w ≡ settled_by hs c w
      settle (Some h) w = refl
      settle None w = ap merged (struck_by-is [] w)

      go : (w : Working) → working hs p ps ≡ w → finished hs w (conflict_of hs (p ∷ ps)) ≡ finished_by hs w
      go (list w) e = ap (λ (c : Option Header). settled hs c w) (sym (rule3_least hs p ps w e) ∙ empty_by-is w) ∙ settle (empty_by hs w) w
      go crowded e = refl
