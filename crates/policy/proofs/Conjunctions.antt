-- What a branch of the code shows of tests in a row: each law takes the first of them off.
-- Assumes nothing.
use Prim.Native.Nat.{ℕ}
use native.Mathlib.Omega.{arith}
use mathlib.Core.Path.{◌≡◌, sym, ◌∙◌, ap, ap₂}
use mathlib.Core.Bool.{Bool, true, false, ◌&&◌, ◌||◌, and-true, or-false}
use lib.Dec.{ltb, eqb}
use borrow.Author.Tests.{eq-eqb, ne_eqb, le-ltb}
use Rattle.policy.specs.Box.{range}

-- a call's result u was tested and is false: so is the row; it is true: the rest decides
pub stops : (a b u : Bool) → u ≡ a → u ≡ false → false ≡ (a && b)
stops a b u e n = sym (ap (◌&& b) (sym e ∙ n))

pub goes_on : (a b t u : Bool) → u ≡ a → u ≡ true → t ≡ b → t ≡ (a && b)
goes_on a b t u e n r = r ∙ sym (ap (◌&& b) (sym e ∙ n))

pub ends : (a t : Bool) → t ≡ a → t ≡ (a && true)
ends a t e = e ∙ sym (and-true a)

-- the same for the order of rows: the first number that differs decides
pub differs : (x y : ℕ) (b : Bool) → (x ≡ y → ⊥) → ltb x y ≡ (ltb x y || (eqb x y && b))
differs x y b n = sym (ap (λ (t : Bool). ltb x y || (t && b)) (ne_eqb x y n) ∙ or-false (ltb x y))

pub agrees : (x y : ℕ) (b t : Bool) → x ≡ y → t ≡ b → t ≡ (ltb x y || (eqb x y && b))
agrees x y b t e r = r ∙ sym (ap₂ (λ (s u : Bool). s || (u && b)) (le-ltb x y (omega arith)) (eq-eqb x y e))

-- a range by its ends, and a box by its ranges
pub ends_are : {l l' h h' : ℕ} → l ≡ l' → h ≡ h' → range l h ≡ range l' h'
ends_are p q = λ i. range (p i) (q i)

pub paired : {A B : Type 0} {a a' : A} {b b' : B} → a ≡ a' → b ≡ b' → ◌≡◌ {A = A × B} (a, b) (a', b')
paired p q = λ i. (p i, q i)
