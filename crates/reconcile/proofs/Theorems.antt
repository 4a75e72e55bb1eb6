-- The lemmas and theorems of 004 on correct reconciliations, over any set of headers, and what they say of a merging.
-- A crossproduct is of one policy or more, so these are written p ∷ ps.
-- Assumes nothing.
use Prim.Native.Nat.{ℕ, zero, suc}
use native.Mathlib.Omega.{arith}
use mathlib.Core.Path.{◌≡◌, refl, sym, ◌∙◌, ap, subst}
use mathlib.Core.Logic.{◌↔◌, ◌⊎◌, inl, inr}
use mathlib.Core.Bool.{true, not}
use mathlib.Core.List.{List, [], ◌∷◌, ◌++◌}
use Rattle.policy.specs.declared.entry.Entry.{Entry}
use Rattle.policy.specs.Header.{Headers}
use Rattle.policy.specs.Policy.{Allowed, allowed, is_caught, at_most, Covering, Equivalent, Refines, Implementable}
use Rattle.policy.proofs.Policy.{equivalent_trans}
use Rattle.reconcile.specs.Crossproduct.{AllCovering, Reconciles, CorrectReconciliation, PairwiseEquivalent, Tuple, entries_of, OrderedCrossproduct}
use Rattle.reconcile.specs.Rules.{no_header, cross_all, drop_empty, Shadowed, WithoutShadowed, drop_shadowed, trimmed, list, working, has_empty, lacking, Collected, WithoutCollected, merged, merge_of}
use Rattle.reconcile.proofs.Common.{common_reconciles, common_widest}
use Rattle.reconcile.proofs.Drop.{drop_empty-allows, without_shadowed-allows, trimmed_allows, empty_shadowed, shadowed_implementable}
use Rattle.reconcile.proofs.Striking.{needless_is, collected_tells, collected_by, needless_tells, needless_by}
use Rattle.reconcile.proofs.Crossproduct.{ordered_is, lemma19}
use Rattle.reconcile.proofs.Lexicographic.{tuples, lexicographic, cross_all-tuples}
use Rattle.reconcile.proofs.Merging.{empty_lacking, merged_allows}

-- ---- equivalent lists

-- a list equivalent to a policy is a policy
covering_like : (hs : Headers) (p q : List Entry) → Equivalent hs q p → Covering hs p → Covering hs q
covering_like hs p q e c h a = ap is_caught (e h a) ∙ c h a

-- Lemma 15: a correct reconciliation of some lists is one of lists that are equivalent to them
pub lemma15 : (hs : Headers) (ps qs : List (List Entry)) → PairwiseEquivalent hs ps qs
    → (r : List Entry) → CorrectReconciliation hs ps r → CorrectReconciliation hs qs r
lemma15 hs ps qs e r c = record { covering = c.covering; reconciles = each ps qs e c.reconciles }
  where
    each : (ps qs : List (List Entry)) → PairwiseEquivalent hs ps qs → Reconciles hs ps r → Reconciles hs qs r
    each [] [] e f l i h a = absurd i
    each [] (q ∷ qs) e f l i h a = absurd e
    each (p ∷ ps) [] e f l i h a = absurd e
    each (p ∷ ps) (q ∷ qs) e f l (inl i) h a =
        subst (λ (x : Allowed). at_most (allowed r h) x ≡ true) (e.0 h a ∙ ap (λ (x : List Entry). allowed x h) (sym i)) (f p (inl refl) h a)
    each (p ∷ ps) (q ∷ qs) e f l (inr i) h a = each ps qs e.1 (λ m j. f m (inr j)) l i h a

-- Lemma 16: a list equivalent to a correct reconciliation is one
pub lemma16 : (hs : Headers) (ps : List (List Entry)) (r q : List Entry) → CorrectReconciliation hs ps r → Equivalent hs q r → CorrectReconciliation hs ps q
lemma16 hs ps r q c e = record {
  covering = covering_like hs r q e c.covering;
  reconciles = λ p i h a. subst (λ (x : Allowed). at_most x (allowed p h) ≡ true) (sym (e h a)) (c.reconciles p i h a);
}

-- ---- ordered crossproducts

-- Theorem 26: every ordered crossproduct of policies is a correct reconciliation of them
pub theorem26 : (hs : Headers) (p : List Entry) (ps : List (List Entry)) (ts : List Tuple) → AllCovering hs (p ∷ ps) → OrderedCrossproduct (p ∷ ps) ts
    → CorrectReconciliation hs (p ∷ ps) (entries_of (p ∷ ps) ts)
theorem26 hs p ps ts f x = record {
  covering = lemma19 hs p ps ts x.crossproduct f;
  reconciles = common_reconciles hs (p ∷ ps) (entries_of (p ∷ ps) ts) λ h a. ordered_is p ps ts x h;
}

-- Theorem 27: every correct reconciliation refines every ordered crossproduct
pub theorem27 : (hs : Headers) (p : List Entry) (ps : List (List Entry)) (ts : List Tuple) → OrderedCrossproduct (p ∷ ps) ts
    → (r : List Entry) → CorrectReconciliation hs (p ∷ ps) r → Refines hs r (entries_of (p ∷ ps) ts)
theorem27 hs p ps ts x r c = common_widest hs p ps (entries_of (p ∷ ps) ts) (λ h a. ordered_is p ps ts x h) r c.reconciles

-- Theorem 28: an ordered crossproduct without the entries that have an empty selector is a correct reconciliation
pub theorem28 : (hs : Headers) (p : List Entry) (ps : List (List Entry)) (ts : List Tuple) → AllCovering hs (p ∷ ps) → OrderedCrossproduct (p ∷ ps) ts
    → CorrectReconciliation hs (p ∷ ps) (drop_empty (entries_of (p ∷ ps) ts))
theorem28 hs p ps ts f x =
    let l = entries_of (p ∷ ps) ts in
    lemma16 hs (p ∷ ps) l (drop_empty l) (theorem26 hs p ps ts f x) λ h a. drop_empty-allows l h

-- ---- entries that can be removed

-- Theorem 33: a list without some of its shadowed entries is equivalent to the list, and a policy if the list is one
pub theorem33 : (hs : Headers) (p q : List Entry) → WithoutShadowed hs [] p q → Equivalent hs q p × (Covering hs p → Covering hs q)
theorem33 hs p q w =
    let e : Equivalent hs q p = λ h a. without_shadowed-allows hs [] p q w h a refl in
    (e, covering_like hs p q e)

-- Theorem 34: a list without a collected entry is equivalent to the list, and a policy if the list is one
pub theorem34 : (hs : Headers) (front : List Entry) (e : Entry) (back : List Entry) → Collected hs front e back
    → Equivalent hs (front ++ back) (front ++ e ∷ back) × (Covering hs (front ++ e ∷ back) → Covering hs (front ++ back))
theorem34 hs front e back c =
    let q = needless_tells hs front e back (needless_is hs front e back ∙ collected_by hs front e back c) in
    (q, covering_like hs (front ++ e ∷ back) (front ++ back) q)

-- Theorem 35: after its steps 1 to 3, and any number of collected entries removed one by one in any order, a correct reconciliation is left
pub theorem35 : (hs : Headers) (p : List Entry) (ps : List (List Entry)) (ts : List Tuple) → AllCovering hs (p ∷ ps) → OrderedCrossproduct (p ∷ ps) ts
    → (n : ℕ) (r : List Entry) → WithoutCollected hs n (drop_shadowed hs [] (drop_empty (entries_of (p ∷ ps) ts))) r → CorrectReconciliation hs (p ∷ ps) r
theorem35 hs p ps ts f x n r w =
    let l = entries_of (p ∷ ps) ts in
    lemma16 hs (p ∷ ps) l r (theorem26 hs p ps ts f x) (equivalent_trans hs r (trimmed hs l) l (removed n (trimmed hs l) w) (trimmed_allows hs l))
  where
    removed : (n : ℕ) (p : List Entry) → WithoutCollected hs n p r → Equivalent hs r p
    removed zero p w h a = ap (λ (l : List Entry). allowed l h) w
    removed (suc n) p (front, e, back, q, c, w) h a =
        removed n (front ++ back) w h a ∙ (theorem34 hs front e back c).0 h a ∙ ap (λ (l : List Entry). allowed l h) (sym q)

-- Theorem 36: where a list and the list without an entry are equivalent, the entry is shadowed or collected
pub theorem36 : (hs : Headers) (front : List Entry) (e : Entry) (back : List Entry) → Equivalent hs (front ++ back) (front ++ e ∷ back)
    → Shadowed hs front e ⊎ Collected hs front e back
theorem36 hs front e back q = inr (collected_tells hs front e back (sym (needless_is hs front e back) ∙ needless_by hs front e back q))

-- Lemma 32: a list is implementable exactly if each of its entries with an empty set is shadowed
pub lemma32 : (hs : Headers) (p : List Entry)
    → Implementable hs p ↔ ((front : List Entry) (e : Entry) (back : List Entry) → p ≡ front ++ e ∷ back → e.actions ≡ 0 → Shadowed hs front e)
lemma32 hs p = (empty_shadowed hs p, shadowed_implementable hs p)

-- ---- mergings

-- rule 1: crossing with each next list in turn, with nothing dropped, gives an ordered crossproduct; so there is one
pub rule1 : (p : List Entry) (ps : List (List Entry)) → (ts : List Tuple) × OrderedCrossproduct (p ∷ ps) ts × (cross_all p ps ≡ entries_of (p ∷ ps) ts)
rule1 p ps = (tuples (p ∷ ps), lexicographic (p ∷ ps), cross_all-tuples p ps)

-- rule 3: an entry of the working list has an empty set exactly if some header has no common action
pub rule3 : (hs : Headers) (p : List Entry) (ps : List (List Entry)) (w : List Entry) → working hs p ps ≡ list w
    → has_empty w ≡ not (no_header hs (lacking (p ∷ ps)))
rule3 hs p ps w e = empty_lacking hs p ps w e

-- the merged list is equivalent to every ordered crossproduct of the lists
pub merged_crossproduct : (hs : Headers) (ps : List (List Entry)) (m : List Entry) (ts : List Tuple) → merge_of hs ps ≡ merged m → OrderedCrossproduct ps ts
    → Equivalent hs m (entries_of ps ts)
merged_crossproduct hs [] m ts e x h a = absurd (let z : ◌≡◌ {A = ℕ} 0 1 = cc in omega arith)
merged_crossproduct hs (p ∷ ps) m ts e x h a = merged_allows hs p ps m e h a ∙ sym (ordered_is p ps ts x h)
