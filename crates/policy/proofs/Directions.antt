-- Which boxes count as crossed: where no range has its low above its high, the end of the direction decides.
-- Assumes nothing.
use Prim.Native.Nat.{ℕ, zero, suc, ◌<◌, ◌≤◌}
use native.Mathlib.Omega.{arith}
use mathlib.Core.Path.{◌≡◌, refl, sym, ◌∙◌, ap}
use mathlib.Core.Bool.{Bool, true, false, not, ◌||◌}
use mathlib.Core.List.{List}
use lib.Dec.{ltb, leb}
use borrow.Author.Tests.{ltb-false, leb-true, lt-ltb, le-ltb}
use Rattle.policy.specs.Row.{Row}
use Rattle.policy.specs.Box.{Range, range, proper}
use Rattle.policy.specs.Header.{arity, Box}
use Rattle.policy.specs.Direction.{directions, crossed_box}
use Rattle.policy.specs.Sides.{field, box_of}
use Rattle.policy.proofs.Bool.{and_left, and_right, or_right}
use Rattle.policy.proofs.Corner.{nth}

-- range number f of a proper box
pub proper_at : (k f : ℕ) (b : Row Range k) → f < k → proper k b ≡ true → (nth (range 0 0) k f b).low ≤ (nth (range 0 0) k f b).high
proper_at zero f b l e = absurd (none_below f l)
  where
    none_below : (f : ℕ) → f < 0 → ⊥
    none_below f l = omega arith
proper_at (suc k) zero b l e = leb-true b.0.low b.0.high (and_left (leb b.0.low b.0.high) (proper k b.1) e)
proper_at (suc k) (suc f) b l e = proper_at k f b.1 (omega arith) (and_right (leb b.0.low b.0.high) (proper k b.1) e)

-- its low is at most its high, so that this one tells whether an end is above 1
proper_crossed : (b : Box) → proper arity b ≡ true → crossed_box b ≡ ltb 1 (directions b).high
proper_crossed b e = go (directions b).low (directions b).high (proper_at arity 5 b (omega arith) e) (ltb 1 (directions b).high) refl
  where
    low_too : (l h : ℕ) → l ≤ h → h ≤ 1 → l ≤ 1
    low_too l h a c = omega arith

    second : (a : Bool) → (a || true) ≡ true
    second true = refl
    second false = refl

    go : (l h : ℕ) → l ≤ h → (t : Bool) → ltb 1 h ≡ t → (not (proper arity b) || (ltb 1 l || t)) ≡ t
    go l h m true q = rw (e, second (ltb 1 l))
    go l h m false q = rw (e, le-ltb 1 l (low_too l h m (high h q)))
      where
        high : (h : ℕ) → ltb 1 h ≡ false → h ≤ 1
        high h q = ltb-false 1 h q

-- ---- what the code's tests show

pub end_above : (b : List ℕ) (h : ℕ) → h ≡ (field b 0 5).high → 1 < h → true ≡ crossed_box (box_of b 0)
unfolding box_of
end_above b h e l =
    sym (or_right (not (proper arity (box_of b 0))) (ltb 1 (field b 0 5).low || ltb 1 (field b 0 5).high)
    (or_right (ltb 1 (field b 0 5).low) (ltb 1 (field b 0 5).high) (ap (ltb 1) (sym e) ∙ lt-ltb 1 h l)))

pub end_within : (b : List ℕ) (h : ℕ) (t : Bool) → h ≡ (field b 0 5).high → h ≤ 1 → t ≡ proper arity (box_of b 0) → not t ≡ crossed_box (box_of b 0)
unfolding box_of
end_within b h true e l p = sym (proper_crossed (box_of b 0) (sym p) ∙ ap (ltb 1) (sym e) ∙ le-ltb 1 h l)
end_within b h false e l p = ap (λ (t : Bool). not t || (ltb 1 (field b 0 5).low || ltb 1 (field b 0 5).high)) p
