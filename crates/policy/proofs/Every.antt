-- Rows as functions of a field's number: tests of every field, and rows whose fields agree.
-- Assumes nothing.
use Prim.Native.Nat.{ℕ, zero, suc, ◌<◌}
use native.Mathlib.Omega.{arith}
use mathlib.Core.Path.{◌≡◌, refl, sym, ◌∙◌, ap}
use mathlib.Core.Bool.{Bool, true, false, ◌&&◌}
use lib.Dec.{leb, ltb, eqb}
use borrow.Author.Tests.{eqb-true}
use Rattle.policy.specs.Row.{precedes}
use Rattle.policy.specs.Box.{Range, within, common, inside, proper, meet}
use Rattle.policy.proofs.Conjunctions.{differs, agrees, paired}
use Rattle.policy.specs.Sides.{row_of}

-- every number below k passes
abbrev pub every : ℕ → (ℕ → Bool) → Bool
every zero t = true
every (suc k) t = t 0 && every k λ j. t (suc j)

-- all below f pass: what a loop over the fields has seen
abbrev pub Passed : (ℕ → Bool) → ℕ → Type 0
Passed t f = (j : ℕ) → j < f → t j ≡ true

pub passed_none : (t : ℕ → Bool) → Passed t 0
passed_none t j l = absurd (omega arith)

pub every_passed : (k : ℕ) (t : ℕ → Bool) → Passed t k → true ≡ every k t
every_passed zero t p = refl
every_passed (suc k) t p = every_passed k (λ j. t (suc j)) (λ j l. p (suc j) (up j k l)) ∙ sym (ap (◌&& every k (λ j. t (suc j))) (p 0 (omega arith)))
  where
    up : (j k : ℕ) → j < k → suc j < suc k
    up j k l = omega arith

pub one_fails : (k f : ℕ) (t : ℕ → Bool) → f < k → t f ≡ false → false ≡ every k t
one_fails zero f t l e = absurd (none f l)
  where
    none : (f : ℕ) → f < 0 → ⊥
    none f l = omega arith
one_fails (suc k) zero t l e = sym (ap (◌&& every k (λ j. t (suc j))) e)
one_fails (suc k) (suc f) t l e = go (t 0) (one_fails k f (λ j. t (suc j)) (down f k l) e)
  where
    down : (f k : ℕ) → suc f < suc k → f < k
    down f k l = omega arith

    go : (a : Bool) → false ≡ every k (λ j. t (suc j)) → false ≡ (a && every k (λ j. t (suc j)))
    go true p = p
    go false p = refl

-- rows whose fields agree
pub row_ext : {A : Type 0} (k : ℕ) (g h : ℕ → A) → ((j : ℕ) → j < k → g j ≡ h j) → row_of k g ≡ row_of k h
row_ext zero g h e = refl
row_ext (suc k) g h e = paired (e 0 (omega arith)) (row_ext k (λ j. g (suc j)) (λ j. h (suc j)) λ j l. e (suc j) (up j k l))
  where
    up : (j k : ℕ) → j < k → suc j < suc k
    up j k l = omega arith

-- what is said of rows, said of their fields
pub inside_every : (k : ℕ) (g : ℕ → Range) (x : ℕ → ℕ) → every k (λ j. within (g j) (x j)) ≡ inside k (row_of k g) (row_of k x)
inside_every zero g x = refl
inside_every (suc k) g x = ap (within (g 0) (x 0) &&◌) (inside_every k (λ j. g (suc j)) (λ j. x (suc j)))

pub proper_every : (k : ℕ) (g : ℕ → Range) → every k (λ j. leb (g j).low (g j).high) ≡ proper k (row_of k g)
proper_every zero g = refl
proper_every (suc k) g = ap (leb (g 0).low (g 0).high &&◌) (proper_every k (λ j. g (suc j)))

pub meet_fields : (k : ℕ) (g h : ℕ → Range) → row_of k (λ j. common (g j) (h j)) ≡ meet k (row_of k g) (row_of k h)
meet_fields zero g h = refl
meet_fields (suc k) g h = paired refl (meet_fields k (λ j. g (suc j)) (λ j. h (suc j)))

-- the order of rows: the first field that differs decides
pub first_decides : (k f : ℕ) (x y : ℕ → ℕ) → f < k → Passed (λ j. eqb (x j) (y j)) f → (x f ≡ y f → ⊥) → ltb (x f) (y f) ≡ precedes k (row_of k x) (row_of k y)
first_decides zero f x y l p n = absurd (none f l)
  where
    none : (f : ℕ) → f < 0 → ⊥
    none f l = omega arith
first_decides (suc k) zero x y l p n = differs (x 0) (y 0) (precedes k (row_of k (λ j. x (suc j))) (row_of k (λ j. y (suc j)))) n
first_decides (suc k) (suc f) x y l p n =
    agrees (x 0) (y 0) (precedes k (row_of k (λ j. x (suc j))) (row_of k (λ j. y (suc j)))) (ltb (x (suc f)) (y (suc f))) (eqb-true (x 0) (y 0) (p 0 (omega arith)))
    (first_decides k f (λ j. x (suc j)) (λ j. y (suc j)) (omega arith) (λ j m. p (suc j) (up j f m)) n)
  where
    up : (j f : ℕ) → j < f → suc j < suc f
    up j f l = omega arith

pub none_decides : (k : ℕ) (x y : ℕ → ℕ) → Passed (λ j. eqb (x j) (y j)) k → false ≡ precedes k (row_of k x) (row_of k y)
none_decides zero x y p = refl
none_decides (suc k) x y p =
    agrees (x 0) (y 0) (precedes k (row_of k (λ j. x (suc j))) (row_of k (λ j. y (suc j)))) false (eqb-true (x 0) (y 0) (p 0 (omega arith)))
    (none_decides k (λ j. x (suc j)) (λ j. y (suc j)) λ j m. p (suc j) (up j k m))
  where
    up : (j f : ℕ) → j < f → suc j < suc f
    up j f l = omega arith
