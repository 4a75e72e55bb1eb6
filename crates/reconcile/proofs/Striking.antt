-- Rule 4: an entry can be struck exactly if it is collected, striking leaves what the list allows, and after the pass from last to first none can
-- be struck. Assumes nothing.
use mathlib.Core.Path.{◌≡◌, refl, sym, ◌∙◌, ap, ap₂, subst}
use mathlib.Core.Bool.{Bool, true, false, not, cond, ◌&&◌}
use mathlib.Core.List.{List, [], ◌∷◌, ◌++◌, append_assoc}
use Rattle.policy.specs.declared.header.Header.{Header}
use Rattle.policy.specs.declared.entry.Entry.{Entry}
use Rattle.policy.specs.Header.{Headers}
use Rattle.policy.specs.Entry.{matches}
use Rattle.policy.specs.Policy.{Allowed, actions, uncaught, allowed, is_caught, missed, Equivalent}
use Rattle.policy.proofs.Bool.{clash, is_false, not_true, not_false, and_intro, and_left, and_right}
use Rattle.policy.proofs.Policy.{or_next, allowed_append}
use Rattle.reconcile.specs.Rules.{same, Collected, needless, struck_from, struck}
use Rattle.reconcile.specs.steps.Tests.{collected}
use Rattle.reconcile.proofs.Decide.{Witness, none_by, nowhere, witness, somewhere, no_header-agree}
use Rattle.reconcile.proofs.Common.{same_self, same_tells, same_by}
use Rattle.reconcile.proofs.Drop.{missed_less, Each, each_wider, each_at}

-- ---- one entry

-- the header is caught by e, and the entries behind e allow it another set
abbrev pub Differs : Entry → List Entry → Header → Bool
Differs e back h = matches e h && not (same (allowed back h) (actions e.actions))

-- where the list without e differs
pub differs_at : (front : List Entry) (e : Entry) (back : List Entry) (h : Header)
    → not (same (allowed (front ++ back) h) (allowed (front ++ e ∷ back) h)) ≡ (missed front h && Differs e back h)
differs_at front e back h =
    ap₂ (λ (x y : Allowed). not (same x y)) (allowed_append front back h) (allowed_append front (e ∷ back) h)
    ∙ go (allowed front h) (matches e h) (allowed back h)
  where
    go : (x : Allowed) (m : Bool) (y : Allowed)
        → not (same (or_next x y) (or_next x (cond m (actions e.actions) y))) ≡ (not (is_caught x) && (m && not (same y (actions e.actions))))
    go (actions a) m y = ap not (same_self (actions a))
    go uncaught true y = refl
    go uncaught false y = ap not (same_self y)

module _ (hs : Headers) (front : List Entry) (e : Entry) (back : List Entry) where
  pub needless_is : needless hs front e back ≡ collected hs front e back
  needless_is = no_header-agree hs _ (λ h. missed front h && Differs e back h) λ h a. differs_at front e back h

  -- Definition 30 and its test
  pub collected_tells : collected hs front e back ≡ true → Collected hs front e back
  collected_tells c h a u m =
      same_tells (allowed back h) (actions e.actions)
      (not_false (is_false (not (same (allowed back h) (actions e.actions))) λ d.
      clash (and_intro u (and_intro m d)) (nowhere hs (λ h. missed front h && Differs e back h) c h a)))

  pub collected_by : Collected hs front e back → collected hs front e back ≡ true
  collected_by c = none_by hs (λ h. missed front h && Differs e back h) λ h a. is_false (missed front h && Differs e back h) λ b.
      let d = and_right (missed front h) (Differs e back h) b in
      clash (same_by (allowed back h) (actions e.actions) (c h a (and_left (missed front h) (Differs e back h) b) (and_left (matches e h) _ d)))
      (not_true (and_right (matches e h) (not (same (allowed back h) (actions e.actions))) d))

  -- Definition 5 and the test of rule 4
  pub needless_tells : needless hs front e back ≡ true → Equivalent hs (front ++ back) (front ++ e ∷ back)
  needless_tells n h a =
      same_tells (allowed (front ++ back) h) (allowed (front ++ e ∷ back) h)
      (not_false (nowhere hs (λ h. not (same (allowed (front ++ back) h) (allowed (front ++ e ∷ back) h))) n h a))

  pub needless_by : Equivalent hs (front ++ back) (front ++ e ∷ back) → needless hs front e back ≡ true
  needless_by q =
      none_by hs (λ h. not (same (allowed (front ++ back) h) (allowed (front ++ e ∷ back) h))) λ h a.
      ap not (same_by (allowed (front ++ back) h) (allowed (front ++ e ∷ back) h) (q h a))

-- ---- the pass

module _ (hs : Headers) where
  -- what is left allows the same
  pub struck_from-allows : (front p : List Entry) → Equivalent hs (front ++ struck_from hs front p) (front ++ p)
  struck_from-allows front [] h a = refl
  struck_from-allows front (e ∷ p) h a = go (needless hs front e back) refl ∙ joined (struck_from-allows (front ++ e ∷ []) p h a)
    where
      back : List Entry
      back = struck_from hs (front ++ e ∷ []) p

      joined : allowed ((front ++ e ∷ []) ++ back) h ≡ allowed ((front ++ e ∷ []) ++ p) h → allowed (front ++ e ∷ back) h ≡ allowed (front ++ e ∷ p) h
      joined ih = ap (λ (l : List Entry). allowed l h) (sym (append_assoc front (e ∷ []) back)) ∙ ih ∙ ap (λ (l : List Entry). allowed l h) (append_assoc front (e ∷ []) p)

      go : (b : Bool) → needless hs front e back ≡ b → allowed (front ++ cond b back (e ∷ back)) h ≡ allowed (front ++ e ∷ back) h
      go true n = needless_tells hs front e back n h a
      go false n = refl

  pub struck_allows : (p : List Entry) → Equivalent hs (struck hs p) p
  struck_allows p h a = struck_from-allows [] p h a

  -- a header that shows that an entry is needed stays one when entries before it go
  needed : (front p : List Entry) → Each hs Differs front (struck_from hs front p)
  needed front [] = tt
  needed front (e ∷ p) = go (needed (front ++ e ∷ []) p) (needless hs front e back) refl
    where
      back : List Entry
      back = struck_from hs (front ++ e ∷ []) p

      go : Each hs Differs (front ++ e ∷ []) back → (b : Bool) → needless hs front e back ≡ b → Each hs Differs front (cond b back (e ∷ back))
      go ih true n = each_wider hs Differs (front ++ e ∷ []) front back (λ h u. missed_less front e h u) ih
      go ih false n = (witness hs (λ h. missed front h && Differs e back h) (sym (needless_is hs front e back) ∙ n), ih)

  -- so no entry of what is left can be struck
  pub struck_needs : (p ds : List Entry) (e : Entry) (bs : List Entry) → struck hs p ≡ ds ++ e ∷ bs → needless hs ds e bs ≡ false
  struck_needs p ds e bs q =
      needless_is hs ds e bs
      ∙ somewhere hs (λ h. missed ds h && Differs e bs h) (each_at hs Differs [] ds e bs (subst (Each hs Differs []) q (needed [] p)))

  -- without any one of them some header is uncaught, or allowed a different set
  pub struck_irredundant : (p ds : List Entry) (e : Entry) (bs : List Entry) → struck hs p ≡ ds ++ e ∷ bs
      → Witness hs (λ h. not (same (allowed (ds ++ bs) h) (allowed (struck hs p) h)))
  struck_irredundant p ds e bs q =
      subst (λ (l : List Entry). Witness hs (λ h. not (same (allowed (ds ++ bs) h) (allowed l h)))) (sym q)
      (witness hs (λ h. not (same (allowed (ds ++ bs) h) (allowed (ds ++ e ∷ bs) h))) (struck_needs p ds e bs q))
