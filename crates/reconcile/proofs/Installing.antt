-- What is promised of an installed list, of `installed`, over any set of headers.
-- Assumes nothing.
use Prim.Native.Nat.{ℕ, ◌+◌, ◌^◌, ◌≤◌, ◌<◌}
use native.Mathlib.Omega.{arith}
use mathlib.Core.Path.{◌≡◌, refl, sym, ◌∙◌, ap}
use mathlib.Core.Logic.{◌⊎◌, inl, inr}
use mathlib.Core.Bool.{Bool, true, false, not, cond}
use mathlib.Core.List.{List, [], ◌∷◌, ◌++◌, map}
use lib.Dec.{eqb, ltb}
use lib.ListN.{length, length-map}
use borrow.Author.Tests.{eqb-true, ltb-true, ltb-false}
use Rattle.policy.specs.declared.header.Header.{Header}
use Rattle.policy.specs.declared.entry.Entry.{Entry}
use Rattle.policy.specs.declared.refusal.Refusal.{Refusal}
use Rattle.policy.specs.Header.{Headers, among}
use Rattle.policy.specs.Actions.{has}
use Rattle.policy.specs.Ranking.{action_count, times, is_ranking, only, best}
use Rattle.policy.specs.Entry.{matches}
use Rattle.policy.specs.Policy.{Allowed, actions, uncaught, allowed, is_caught, Covering}
use Rattle.policy.proofs.ActionSets.{none_empty}
use Rattle.policy.proofs.Ranked.{ranks_once, none_above}
use Rattle.wire.specs.Format.{list_limit}
use Rattle.reconcile.specs.Crossproduct.{In, AllCovering}
use Rattle.reconcile.specs.Rules.{same, common_actions, struck, Merging, refused, merged, merge_of}
use Rattle.reconcile.specs.Installing.{with_best, installed}
use Rattle.reconcile.proofs.Decide.{Witness}
use Rattle.reconcile.proofs.Common.{common_caught}
use Rattle.reconcile.proofs.Striking.{struck_allows, struck_irredundant}
use Rattle.reconcile.proofs.Merging.{struck_few, unmerged, merged_allows, merged_few}

-- ---- the best-ranked action of a set

-- k is the first number of the ranking that is an action of the set
pub record Best (ranking : List ℕ) (a k : ℕ) : Type 0 where
  pub there : has k a ≡ true
  pub better : List ℕ
  pub worse : List ℕ
  pub ranked : ranking ≡ better ++ k ∷ worse
  pub first : (j : ℕ) → In j better → has j a ≡ false
  pub alone : best ranking a ≡ only k

-- there is one, or none of the numbers is an action of the set
best_or_none : (ks : List ℕ) (a : ℕ) → ((k : ℕ) × Best ks a k) ⊎ ((k : ℕ) → In k ks → has k a ≡ false)
best_or_none [] a = inr λ k i. absurd i
best_or_none (j ∷ ks) a = go (has j a) refl (best_or_none ks a)
  where
    go : (b : Bool) → has j a ≡ b → ((k : ℕ) × Best ks a k) ⊎ ((k : ℕ) → In k ks → has k a ≡ false)
        → ((k : ℕ) × Best (j ∷ ks) a k) ⊎ ((k : ℕ) → In k (j ∷ ks) → has k a ≡ false)
    go true e r = inl (j, record { there = e; better = []; worse = ks; ranked = refl; first = λ i x. absurd x; alone = ap (λ (b : Bool). cond b (only j) (best ks a)) e })
    go false e (inl (k, t)) =
        inl (
          k,
          record {
            there = t.there;
            better = j ∷ t.better;
            worse = t.worse;
            ranked = ap (j ∷◌) t.ranked;
            first = earlier t.better t.first;
            alone = ap (λ (b : Bool). cond b (only j) (best ks a)) e ∙ t.alone;
          },
        )
      where
        earlier : (xs : List ℕ) → ((i : ℕ) → In i xs → has i a ≡ false) → (i : ℕ) → In i (j ∷ xs) → has i a ≡ false
        earlier xs f i (inl q) = ap (λ (x : ℕ). has x a) q ∙ e
        earlier xs f i (inr x) = f i x
    go false e (inr f) = inr others
      where
        others : (k : ℕ) → In k (j ∷ ks) → has k a ≡ false
        others k (inl q) = ap (λ (x : ℕ). has x a) q ∙ e
        others k (inr x) = f k x

-- a number that stands there once stands there
once_in : (k : ℕ) (ks : List ℕ) → times k ks ≡ 1 → In k ks
once_in k [] e = absurd (omega arith)
once_in k (j ∷ ks) e = go (eqb j k) refl (once_in k ks) e
  where
    go : (b : Bool) → eqb j k ≡ b → (times k ks ≡ 1 → In k ks) → cond b 1 0 + times k ks ≡ 1 → In k (j ∷ ks)
    go true q ih e = inl (sym (eqb-true j k q))
    go false q ih e = inr (ih (omega arith))

-- a set of 16 bits that has an action has a best-ranked one
pub best_of_some : (ranking : List ℕ) → is_ranking ranking ≡ true → (a : ℕ) → a < 2 ^ action_count → (a ≡ 0 → ⊥) → (k : ℕ) × Best ranking a k
best_of_some ranking r a l n = go (best_or_none ranking a)
  where
    go : ((k : ℕ) × Best ranking a k) ⊎ ((k : ℕ) → In k ranking → has k a ≡ false) → (k : ℕ) × Best ranking a k
    go (inl t) = t
    go (inr f) = absurd (n (none_empty a λ k. at k (ltb k action_count) refl))
      where
        at : (k : ℕ) (b : Bool) → ltb k action_count ≡ b → has k a ≡ false
        at k true q = f k (once_in k ranking (ranks_once ranking r k (ltb-true k action_count q)))
        at k false q = none_above a k l (ltb-false k action_count q)

-- ---- one action an entry

abbrev pub best_allowed : List ℕ → Allowed → Allowed
best_allowed ranking (actions a) = actions (best ranking a)
best_allowed ranking uncaught = uncaught

best_caught : (ranking : List ℕ) (x : Allowed) → is_caught (best_allowed ranking x) ≡ is_caught x
best_caught ranking (actions a) = refl
best_caught ranking uncaught = refl

best_allows : (ranking : List ℕ) (p : List Entry) (h : Header) → allowed (map (with_best ranking) p) h ≡ best_allowed ranking (allowed p h)
best_allows ranking [] h = refl
best_allows ranking (e ∷ p) h = go (matches e h) (best_allows ranking p h)
  where
    go : (b : Bool) → allowed (map (with_best ranking) p) h ≡ best_allowed ranking (allowed p h)
        → cond b (actions (best ranking e.actions)) (allowed (map (with_best ranking) p) h) ≡ best_allowed ranking (cond b (actions e.actions) (allowed p h))
    go true ih = refl
    go false ih = ih

-- ---- the installed list

module _ (hs : Headers) (ranking : List ℕ) (p : List Entry) (ps : List (List Entry)) (m : List Entry) (e : merge_of hs (p ∷ ps) ≡ merged m) where
  abbrev left : List Entry
  left = struck hs (map (with_best ranking) m)

  -- each header is allowed the best-ranked of its common actions
  pub installed_allows : (h : Header) → among hs h ≡ true → allowed left h ≡ best_allowed ranking (common_actions (p ∷ ps) h)
  installed_allows h a = struck_allows hs (map (with_best ranking) m) h a ∙ best_allows ranking m h ∙ ap (best_allowed ranking) (merged_allows hs p ps m e h a)

  -- it is covering if all are
  pub installed_covers : AllCovering hs (p ∷ ps) → Covering hs left
  installed_covers f h a =
      ap is_caught (installed_allows h a) ∙ best_caught ranking (common_actions (p ∷ ps) h) ∙ common_caught h p ps (λ q i. f q i h a)

  -- without any one entry some header is uncaught, or allowed a different set
  pub installed_irredundant : (front : List Entry) (d : Entry) (back : List Entry) → left ≡ front ++ d ∷ back
      → Witness hs (λ h. not (same (allowed (front ++ back) h) (allowed left h)))
  installed_irredundant front d back q = struck_irredundant hs (map (with_best ranking) m) front d back q

  -- it has no more entries than a file may have
  pub installed_few : length left ≤ list_limit
  installed_few = fewer (length left) (length (map (with_best ranking) m)) (length m) list_limit (struck_few hs (map (with_best ranking) m)) (length-map m (with_best ranking)) (merged_few hs p ps m e)
    where
      fewer : (a b c d : ℕ) → a ≤ b → b ≡ c → c ≤ d → a ≤ d
      fewer a b c d x y z = omega arith

-- ---- what an installing tells of its merging

-- the merged list that x is, of which the installed one was left
pub record InstalledFrom (hs : Headers) (ranking : List ℕ) (x : Merging) (m : List Entry) : Type 0 where
  pub list : List Entry
  pub is : x ≡ merged list
  pub left : struck hs (map (with_best ranking) list) ≡ m

module _ (hs : Headers) (ranking : List ℕ) where
  pub installed_tells : (x : Merging) (m : List Entry) → installed hs ranking x ≡ merged m → InstalledFrom hs ranking x m
  installed_tells (refused r) m e = absurd (let z : ◌≡◌ {A = ℕ} 0 1 = cc in omega arith)
  installed_tells (merged l) m e = record { list = l; is = refl; left = ap unmerged e }

  pub refused_tells : (x : Merging) (s : Refusal) → installed hs ranking x ≡ refused s → x ≡ refused s
  refused_tells (refused r) s e = e
  refused_tells (merged m) s e = absurd (let z : ◌≡◌ {A = ℕ} 0 1 = cc in omega arith)
