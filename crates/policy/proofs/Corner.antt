-- Rows of numbers that fit their sizes, field by field, and the low corner of a box of sides.
-- Assumes nothing.
use Prim.Native.Nat.{ℕ, zero, suc, ◌<◌, ◌≤◌}
use native.Mathlib.Omega.{arith}
use mathlib.Core.Path.{◌≡◌, refl, sym, ◌∙◌}
use mathlib.Core.Bool.{true}
use mathlib.Core.List.{List}
use lib.Dec.{ltb, leb}
use borrow.Author.Tests.{ltb-true, leb-true}
use Rattle.policy.specs.Row.{Row}
use Rattle.policy.specs.steps.Boxes.{fits, lows}
use Rattle.policy.specs.Box.{Range, range, highs_fit}
use Rattle.policy.specs.Header.{arity, sizes}
use Rattle.policy.specs.Sides.{row_of, field, box_of}
use Rattle.policy.proofs.Bool.{and_left, and_right}

-- the first number, and the others
pub fits_first : (k : ℕ) (ns x : Row ℕ (suc k)) → fits (suc k) ns x ≡ true → x.0 < ns.0
fits_first k ns x f = ltb-true x.0 ns.0 (and_left (ltb x.0 ns.0) (fits k ns.1 x.1) f)

pub fits_rest : (k : ℕ) (ns x : Row ℕ (suc k)) → fits (suc k) ns x ≡ true → fits k ns.1 x.1 ≡ true
fits_rest k ns x f = and_right (ltb x.0 ns.0) (fits k ns.1 x.1) f

-- value number f of a row; past its end the other one
abbrev pub nth : {A : Type 0} → A → (k f : ℕ) → Row A k → A
nth d zero f x = d
nth d (suc k) zero x = x.0
nth d (suc k) (suc f) x = nth d k f x.1

none_below : (f : ℕ) → f < 0 → ⊥
none_below f l = omega arith

down : (f k : ℕ) → suc f < suc k → f < k
down f k l = omega arith

-- number f fits
pub fits_at : (k f : ℕ) (ns x : Row ℕ k) → f < k → fits k ns x ≡ true → nth 0 k f x < nth 0 k f ns
fits_at zero f ns x l e = absurd (none_below f l)
fits_at (suc k) zero ns x l e = fits_first k ns x e
fits_at (suc k) (suc f) ns x l e = fits_at k f ns.1 x.1 (down f k l) (fits_rest k ns x e)

pub highs_at : (k f : ℕ) (ns : Row ℕ k) (b : Row Range k) → f < k → highs_fit k ns b ≡ true → (nth (range 0 0) k f b).high < nth 0 k f ns
highs_at zero f ns b l e = absurd (none_below f l)
highs_at (suc k) zero ns b l e = ltb-true b.0.high ns.0 (and_left (ltb b.0.high ns.0) (highs_fit k ns.1 b.1) e)
highs_at (suc k) (suc f) ns b l e = highs_at k f ns.1 b.1 (down f k l) (and_right (ltb b.0.high ns.0) (highs_fit k ns.1 b.1) e)

low_at : (k f : ℕ) (g : ℕ → Range) → f < k → nth 0 k f (lows k (row_of k g)) ≡ (g f).low
low_at zero f g l = absurd (none_below f l)
low_at (suc k) zero g l = refl
low_at (suc k) (suc f) g l = low_at k f (λ j. g (suc j)) (down f k l)

-- the low of field number f, where the low corner fits: whichever the field, its size is computed
pub low_fits : (b : List ℕ) → fits arity sizes (lows arity (box_of b 0)) ≡ true → (f x n : ℕ) → x ≡ (field b 0 f).low → ltb f arity ≡ true → leb (nth 0 arity f sizes) n ≡ true → x < n
unfolding box_of
low_fits b e f x n p l m =
    below (nth 0 arity f (lows arity (box_of b 0))) (nth 0 arity f sizes) x n (p ∙ sym (low_at arity f (field b 0) (ltb-true f arity l)))
    (fits_at arity f sizes (lows arity (box_of b 0)) (ltb-true f arity l) e) (leb-true (nth 0 arity f sizes) n m)
  where
    below : (y s x n : ℕ) → x ≡ y → y < s → s ≤ n → x < n
    below y s x n p q r = omega arith
