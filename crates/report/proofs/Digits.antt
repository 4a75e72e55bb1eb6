-- Decimal numbers by their last digit, and the digits of one byte more.
-- Assumes nothing.
use Prim.Native.Nat.{ℕ, zero, suc, ◌+◌, ◌/◌, ◌%◌, ◌≤◌, ◌<◌}
use native.Mathlib.Nat.{mod-eq_of_lt}
use native.Mathlib.Numerals.{add-one}
use native.Mathlib.Omega.{arith}
use mathlib.Core.Path.{◌≡◌, refl, ◌∙◌, ap}
use mathlib.Core.Bool.{Bool, true, false, cond}
use mathlib.Core.List.{List, [], ◌∷◌, ◌++◌}
use lib.Dec.{ltb}
use borrow.Author.Tests.{lt-ltb, le-ltb, ltb-false}
use Rattle.report.specs.Text.{digit, decimal_in, decimal, hex_byte, hex}

-- steps enough: more change nothing
steps : (j k n : ℕ) → n < j → n < k → decimal_in j n ≡ decimal_in k n
steps zero k n h g = absurd (omega arith)
steps (suc j) zero n h g = absurd (omega arith)
steps (suc j) (suc k) n h g = go (λ a b. steps j k (n / 10) a b) (ltb n 10) refl
  where
    go : (n / 10 < j → n / 10 < k → decimal_in j (n / 10) ≡ decimal_in k (n / 10)) → (t : Bool) → ltb n 10 ≡ t
        → cond t [] (decimal_in j (n / 10)) ++ digit (n % 10) ∷ [] ≡ cond t [] (decimal_in k (n / 10)) ++ digit (n % 10) ∷ []
    go rest true e = refl
    go rest false e = ap (λ (l : List ℕ). l ++ digit (n % 10) ∷ []) (rest (omega (arith, ltb-false n 10 e)) (omega (arith, ltb-false n 10 e)))

-- a number below 10 is its last digit
pub only_digit : (n : ℕ) → n < 10 → decimal n ≡ digit (n % 10) ∷ []
unfolding decimal
only_digit n h =
    ap (λ (k : ℕ). decimal_in k n) (add-one n)
    ∙ ap (λ (t : Bool). cond t [] (decimal_in n (n / 10)) ++ digit (n % 10) ∷ []) (lt-ltb n 10 h)

pub one_digit : (n : ℕ) → n < 10 → decimal n ≡ digit n ∷ []
one_digit n h = only_digit n h ∙ ap (λ (d : ℕ). digit d ∷ []) (mod-eq_of_lt h)

-- any other is the number of its tenth, then its last digit
pub last_digit : (n : ℕ) → 10 ≤ n → decimal n ≡ decimal (n / 10) ++ digit (n % 10) ∷ []
unfolding decimal
last_digit n h =
    ap (λ (k : ℕ). decimal_in k n) (add-one n)
    ∙ ap (λ (t : Bool). cond t [] (decimal_in n (n / 10)) ++ digit (n % 10) ∷ []) (le-ltb n 10 h)
    ∙ ap (λ (l : List ℕ). l ++ digit (n % 10) ∷ []) (steps n (n / 10 + 1) (n / 10) (omega arith) (omega arith))

-- ---- bytes

pub hex_append : (s t : List ℕ) → hex (s ++ t) ≡ hex s ++ hex t
hex_append [] t = refl
hex_append (b ∷ s) t = ap (λ (l : List ℕ). hex_byte b ++ l) (hex_append s t)
