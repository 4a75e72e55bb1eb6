-- The test of a ranking, and what a ranking tells.
-- Assumes nothing.
use Prim.Native.Nat.{ℕ, zero, suc, ◌+◌, ◌/◌, ◌%◌, ◌^◌, ◌<◌, ◌≤◌}
use native.Mathlib.Omega.{arith}
use native.Mathlib.Nat.{zero-add}
use mathlib.Core.Path.{◌≡◌, refl, sym, ◌∙◌, ap, subst}
use mathlib.Core.Bool.{Bool, true, false, not, cond, ◌&&◌}
use mathlib.Core.List.{List, [], ◌∷◌}
use lib.Dec.{eqb, ltb}
use lib.ListN.{length, get_or}
use lib.Pow.{pow-lt, pow_mono, shr_lt}
use borrow.Author.Tests.{eqb-true, eq-eqb, ne_eqb, ltb-true, ltb-false}
use Rattle.policy.specs.Actions.{has}
use Rattle.policy.specs.Ranking.{action_count, all_below, times, once_each, is_ranking, only, best}
use Rattle.policy.proofs.Bool.{not_true, not_false, and_left, and_right}

-- ---- the test

module _ (ks : List ℕ) where
  pub other_length : (length ks ≡ action_count → ⊥) → false ≡ is_ranking ks
  unfolding is_ranking
  other_length q = sym (ap (◌&& (all_below action_count ks && once_each action_count ks)) (ne_eqb (length ks) action_count q))

  module _ (b : Bool) (p : b ≡ all_below action_count ks) (l : length ks ≡ action_count) where
    long : (b && once_each action_count ks) ≡ is_ranking ks
    unfolding is_ranking
    long = ap (◌&& once_each action_count ks) p ∙ sym (ap (◌&& (all_below action_count ks && once_each action_count ks)) (eq-eqb (length ks) action_count l))

    pub no_action : not b ≡ true → false ≡ is_ranking ks
    no_action q = ap (◌&& once_each action_count ks) (sym (not_true {b = b} q)) ∙ long

    pub all_actions : not b ≡ false → once_each action_count ks ≡ is_ranking ks
    all_actions q = ap (◌&& once_each action_count ks) (sym (not_false {b = b} q)) ∙ long

-- ---- what a ranking tells

-- the number at a place, where all are below n
below_at : (n : ℕ) (ks : List ℕ) (i : ℕ) → all_below n ks ≡ true → i < length ks → get_or ks i 0 < n
below_at n [] i b l = absurd (none_below i l)
  where
    none_below : (i : ℕ) → i < 0 → ⊥
    none_below i l = omega arith
below_at n (k ∷ ks) zero b l = ltb-true k n (and_left (ltb k n) (all_below n ks) b)
below_at n (k ∷ ks) (suc i) b l = below_at n ks i (and_right (ltb k n) (all_below n ks) b) (omega arith)

module _ (ks : List ℕ) (r : is_ranking ks ≡ true) where
  pub ranks_actions : all_below action_count ks ≡ true
  unfolding is_ranking
  ranks_actions = and_left (all_below action_count ks) (once_each action_count ks) (and_right (eqb (length ks) action_count) _ r)

  pub ranks_each : once_each action_count ks ≡ true
  unfolding is_ranking
  ranks_each = and_right (all_below action_count ks) (once_each action_count ks) (and_right (eqb (length ks) action_count) _ r)

  pub ranks_action : (i : ℕ) → i < length ks → get_or ks i 0 < action_count
  ranks_action i l = below_at action_count ks i ranks_actions l

  -- each action stands in it once
  pub ranks_once : (k : ℕ) → k < action_count → times k ks ≡ 1
  ranks_once k l = go action_count ranks_each l
    where
      last : (k n : ℕ) → n ≤ k → k < suc n → k ≡ n
      last k n m l = omega arith

      go : (n : ℕ) → once_each n ks ≡ true → k < n → times k ks ≡ 1
      go zero e l = absurd (none_below k l)
        where
          none_below : (k : ℕ) → k < 0 → ⊥
          none_below k l = omega arith
      go (suc n) e l = at (go n (and_right (eqb (times n ks) 1) (once_each n ks) e)) (ltb k n) refl
        where
          at : (k < n → times k ks ≡ 1) → (b : Bool) → ltb k n ≡ b → times k ks ≡ 1
          at ih true q = ih (ltb-true k n q)
          at ih false q = ap (λ (j : ℕ). times j ks) (last k n (ltb-false k n q) l) ∙ eqb-true (times n ks) 1 (and_left (eqb (times n ks) 1) (once_each n ks) e)

-- ---- sets of 16 bits

-- an action alone is such a set, so the best-ranked one is
pub best_fits : (ks : List ℕ) (a : ℕ) → all_below action_count ks ≡ true → best ks a < 2 ^ action_count
best_fits [] a b = omega arith
best_fits (k ∷ ks) a b = go (has k a) (best_fits ks a (and_right (ltb k action_count) (all_below action_count ks) b))
  where
    go : (t : Bool) → best ks a < 2 ^ action_count → cond t (only k) (best ks a) < 2 ^ action_count
    go true l = pow-lt (ltb-true k action_count (and_left (ltb k action_count) (all_below action_count ks) b))
    go false l = l

-- it has no action from the 16th on
pub none_above : (a k : ℕ) → a < 2 ^ action_count → action_count ≤ k → has k a ≡ false
none_above a k l m = ap (λ (x : ℕ). eqb (x % 2) 1) (nothing (a / 2 ^ k) (shr_lt 0 k (small (pow_mono m))))
  where
    nothing : (x : ℕ) → x < 2 ^ 0 → x ≡ 0
    nothing x l = omega arith

    small : 2 ^ action_count ≤ 2 ^ k → a < 2 ^ (0 + k)
    small p = subst (λ (n : ℕ). a < 2 ^ n) (sym (zero-add k)) (omega (arith, l, p))
