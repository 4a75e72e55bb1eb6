-- Check 3 without a division (02, Wish 3): what the code compares comes out as what 01 divides, whatever the size of a record.
-- Assumes nothing.
use Prim.Native.Nat.{ℕ, ◌+◌, ◌*◌, ◌-◌, ◌/◌, ◌%◌, ◌<◌}
use native.Mathlib.Nat.{add-zero, div-add-mod, mul-div_right, mul-mod_right}
use mathlib.Core.Path.{◌≡◌, refl, sym, ◌∙◌, ap, ap₂}
use mathlib.Core.Bool.{Bool, true, false, not, ◌||◌}
use lib.Dec.{eqb}
use borrow.Author.Tests.{eqb-true, eq-eqb, ne_eqb}
use Rattle.policy.proofs.Bool.{clash}

-- any x in the place of L − 3, by how the two tests of its division come out
outcome : (size : ℕ) → 0 < size → (x n : ℕ) (a b : Bool) → eqb (x / size) n ≡ a → eqb (x % size) 0 ≡ b → not (eqb x (size * n)) ≡ (not a || not b)
outcome size some x n true true p q =
    let e : size * n + 0 ≡ x = ap₂ (λ (k r : ℕ). size * k + r) (sym (eqb-true (x / size) n p)) (sym (eqb-true (x % size) 0 q)) ∙ div-add-mod x size in
    ap not (eq-eqb x (size * n) (sym e ∙ add-zero (size * n)))
outcome size some x n true false p q = ap not (ne_eqb x (size * n) λ e. clash (eq-eqb (x % size) 0 (ap (◌% size) e ∙ mul-mod_right size n)) q)
outcome size some x n false b p q = ap not (ne_eqb x (size * n) λ e. clash (eq-eqb (x / size) n (ap (◌/ size) e ∙ mul-div_right n some)) p)

-- L − 3 isn't the size times n exactly where (L − 3) divided by the size isn't n with remainder 0. Of every L and n: below 3, where 02 doesn't ask,
-- L − 3 is 0 on both sides
pub compared_as_divided : (size : ℕ) → 0 < size → (l n : ℕ)
    → not (eqb (l - 3) (size * n)) ≡ (not (eqb ((l - 3) / size) n) || not (eqb ((l - 3) % size) 0))
compared_as_divided size some l n = outcome size some (l - 3) n _ _ refl refl
