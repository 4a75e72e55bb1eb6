-- Two boxes are the same if all their sides are.
use Rattle.std.proofs.Common.{◌∙◌, ℕ, suc, ◌≡◌, ◌<◌, ◌≤◌, Bool, true, false, refl, ap, ap₂, ◌&&◌, List, ◌∷◌, length, get_or, drop, arith, drop-cons, drop_of_length-le}
use lib.Dec.{eqb}
use lib.Pointwise.{pointwise}
use Rattle.policy.specs.Sides.{box_of}
use Rattle.policy.specs.steps.Boxes.{same_box}
use Rattle.policy.specs.Header.{arity}
use Rattle.policy.specs.steps.Rows.{sides}
use Rattle.policy.proofs.sides.is_same.Goals as goal

two_more : (s : List ℕ) (i : ℕ) → suc i < length s → drop i s ≡ get_or s i 0 ∷ get_or s (suc i) 0 ∷ drop (suc (suc i)) s
two_more s i l = drop-cons s i 0 (omega arith) ∙ ap (get_or s i 0 ∷◌) (drop-cons s (suc i) 0 l)

grouped : (a b t u : Bool) → t ≡ u → (a && (b && t)) ≡ ((a && b) && u)
grouped true b t u e = ap (b &&◌) e
grouped false b t u e = refl

-- the two sides of a field, and those behind them
two_same : (a b : List ℕ) (i : ℕ) (t : Bool) → suc i < length a → suc i < length b → pointwise eqb (drop (suc (suc i)) a) (drop (suc (suc i)) b) ≡ t
    → pointwise eqb (drop i a) (drop i b) ≡ ((eqb (get_or a i 0) (get_or b i 0) && eqb (get_or a (suc i) 0) (get_or b (suc i) 0)) && t)
two_same a b i t l m e = ap₂ (pointwise eqb) (two_more a i l) (two_more b i m) ∙ grouped _ _ _ t e

none_left : (a b : List ℕ) → length a ≤ sides → length b ≤ sides → pointwise eqb (drop sides a) (drop sides b) ≡ true
none_left a b l m = ap₂ (pointwise eqb) (drop_of_length-le a l) (drop_of_length-le b m)

same_sides : (a b : List ℕ) → length a ≡ sides → length b ≡ sides → pointwise eqb a b ≡ same_box arity (box_of a 0) (box_of b 0)
unfolding box_of
same_sides a b l m = search (two_same, none_left, arith) depth 8

pub returns : goal.returns
returns c = c.eq.ensures ∙ same_sides c.args.a.now c.args.b.now c.told-a c.told-b
