-- The order of rows of numbers is total and transitive, and nothing precedes itself.
-- Assumes nothing.
use Prim.Native.Nat.{ℕ, zero, suc, ◌<◌}
use native.Mathlib.Omega.{arith}
use mathlib.Core.Path.{◌≡◌, refl, sym, ◌∙◌}
use mathlib.Core.Logic.{◌⊎◌, inl, inr}
use mathlib.Core.Bool.{true, false, ◌&&◌, true≢false}
use lib.Dec.{ltb, eqb}
use borrow.Author.Tests.{ltb-true, ltb-false, eqb-true, lt-ltb, eq-eqb}
use Rattle.policy.specs.Row.{Row, precedes}
use Rattle.policy.proofs.Bool.{case, and_intro, and_left, and_right, or_elim, or_left, or_right}

pub data Three (a b : ℕ) : Type 0 where
  less : a < b → Three a b
  even : a ≡ b → Three a b
  more : b < a → Three a b

pub three : (a b : ℕ) → Three a b
three a b = go (case (ltb a b)) (case (ltb b a))
  where
    go : (ltb a b ≡ true) ⊎ (ltb a b ≡ false) → (ltb b a ≡ true) ⊎ (ltb b a ≡ false) → Three a b
    go (inl p) q = less (ltb-true a b p)
    go (inr p) (inl q) = more (ltb-true b a q)
    go (inr p) (inr q) =
        let u = ltb-false a b p in
        let v = ltb-false b a q in
        even (omega arith)

-- what precedes says, and how it is shown
pub pre_less : (k : ℕ) (x y : Row ℕ (suc k)) → x.0 < y.0 → precedes (suc k) x y ≡ true
pre_less k x y l = or_left _ _ (lt-ltb x.0 y.0 l)

pub pre_even : (k : ℕ) (x y : Row ℕ (suc k)) → x.0 ≡ y.0 → precedes k x.1 y.1 ≡ true → precedes (suc k) x y ≡ true
pre_even k x y e p = or_right (ltb x.0 y.0) _ (and_intro (eq-eqb x.0 y.0 e) p)

pub pre_cases : (k : ℕ) (x y : Row ℕ (suc k)) → precedes (suc k) x y ≡ true
    → (x.0 < y.0) ⊎ ((x.0 ≡ y.0) × (precedes k x.1 y.1 ≡ true))
pre_cases k x y e = go (or_elim (ltb x.0 y.0) (eqb x.0 y.0 && precedes k x.1 y.1) e)
  where
    go : (ltb x.0 y.0 ≡ true) ⊎ ((eqb x.0 y.0 && precedes k x.1 y.1) ≡ true)
        → (x.0 < y.0) ⊎ ((x.0 ≡ y.0) × (precedes k x.1 y.1 ≡ true))
    go (inl p) = inl (ltb-true x.0 y.0 p)
    go (inr p) =
        inr (
          eqb-true x.0 y.0 (and_left (eqb x.0 y.0) (precedes k x.1 y.1) p),
          and_right (eqb x.0 y.0) (precedes k x.1 y.1) p,
        )

pub data Order (k : ℕ) (x y : Row ℕ k) : Type 0 where
  earlier : precedes k x y ≡ true → Order k x y
  equal : x ≡ y → Order k x y
  later : precedes k y x ≡ true → Order k x y

-- the order is total
pub order : (k : ℕ) (x y : Row ℕ k) → Order k x y
order zero x y = equal refl
order (suc k) x y = go (three x.0 y.0) (order k x.1 y.1)
  where
    go : Three x.0 y.0 → Order k x.1 y.1 → Order (suc k) x y
    go (less l) o = earlier (pre_less k x y l)
    go (more l) o = later (pre_less k y x l)
    go (even e) (earlier p) = earlier (pre_even k x y e p)
    go (even e) (equal p) = equal (λ i. (e i, p i))
    go (even e) (later p) = later (pre_even k y x (sym e) p)

-- and transitive
pub pre_trans : (k : ℕ) (x y z : Row ℕ k) → precedes k x y ≡ true → precedes k y z ≡ true → precedes k x z ≡ true
pre_trans zero x y z p q = p
pre_trans (suc k) x y z p q = go (pre_trans k x.1 y.1 z.1) (pre_cases k x y p) (pre_cases k y z q)
  where
    go : (precedes k x.1 y.1 ≡ true → precedes k y.1 z.1 ≡ true → precedes k x.1 z.1 ≡ true)
        → (x.0 < y.0) ⊎ ((x.0 ≡ y.0) × (precedes k x.1 y.1 ≡ true))
        → (y.0 < z.0) ⊎ ((y.0 ≡ z.0) × (precedes k y.1 z.1 ≡ true)) → precedes (suc k) x z ≡ true
    go ih (inl l) (inl m) = pre_less k x z (omega arith)
    go ih (inl l) (inr m) = pre_less k x z (omega arith)
    go ih (inr l) (inl m) = pre_less k x z (omega arith)
    go ih (inr l) (inr m) = pre_even k x z (l.0 ∙ m.0) (ih l.1 m.1)

-- nothing precedes itself
pub pre_irrefl : (k : ℕ) (x : Row ℕ k) → precedes k x x ≡ true → ⊥
pre_irrefl zero x p = true≢false (sym p)
pre_irrefl (suc k) x p = go (pre_irrefl k x.1) (pre_cases k x x p)
  where
    go : (precedes k x.1 x.1 ≡ true → ⊥) → (x.0 < x.0) ⊎ ((x.0 ≡ x.0) × (precedes k x.1 x.1 ≡ true)) → ⊥
    go ih (inl l) = omega arith
    go ih (inr l) = ih l.1
