-- Numbers of 2 and 4 bytes: from bytes and back, and to bytes and back.
-- Assumes nothing.
use Prim.Native.Nat.{ℕ, ◌+◌, ◌*◌, ◌/◌, ◌%◌, ◌<◌}
use native.Mathlib.Omega.{arith}
use native.Mathlib.Nat.{div-div-eq-div-mul}
use mathlib.Core.Path.{◌≡◌, ◌∙◌, ap}
use mathlib.Core.List.{[], ◌∷◌}
use Rattle.wire.specs.Format.{bytes2, bytes4}

high_of : (a b : ℕ) → a < 256 → b < 256 → (a * 256 + b) / 256 % 256 ≡ a
high_of a b p q = omega arith

low_of : (a b : ℕ) → a < 256 → b < 256 → (a * 256 + b) % 256 ≡ b
low_of a b p q = omega arith

pub split2 : (a b : ℕ) → a < 256 → b < 256 → bytes2 (a * 256 + b) ≡ a ∷ b ∷ []
split2 a b p q = λ i. high_of a b p q i ∷ low_of a b p q i ∷ []

pub join2 : (x : ℕ) → x < 65536 → x / 256 % 256 * 256 + x % 256 ≡ x
join2 x p = omega arith

pub join4 : (x : ℕ) → x < 4294967296 → ((x / 16777216 % 256 * 256 + x / 65536 % 256) * 256 + x / 256 % 256) * 256 + x % 256 ≡ x
join4 x p =
    let three = div-div-eq-div-mul x 256 256 in
    let four = ap (◌/ 256) three ∙ div-div-eq-div-mul x 65536 256 in
    rw (← four, ← three) (steps (x / 256 / 256 / 256) (x / 256 / 256) (x / 256) x (omega (arith, four)) (omega arith) (omega arith) (omega arith))
  where
    steps : (w z y x : ℕ) → w < 256 → w * 256 + z % 256 ≡ z → z * 256 + y % 256 ≡ y → y * 256 + x % 256 ≡ x
        → ((w % 256 * 256 + z % 256) * 256 + y % 256) * 256 + x % 256 ≡ x
    steps w z y x l p q r = omega arith

first_of : (a b c d : ℕ) → a < 256 → b < 256 → c < 256 → d < 256 → (((a * 256 + b) * 256 + c) * 256 + d) / 16777216 % 256 ≡ a
first_of a b c d p q r t = omega arith

second_of : (a b c d : ℕ) → a < 256 → b < 256 → c < 256 → d < 256 → (((a * 256 + b) * 256 + c) * 256 + d) / 65536 % 256 ≡ b
second_of a b c d p q r t = omega arith

third_of : (a b c d : ℕ) → a < 256 → b < 256 → c < 256 → d < 256 → (((a * 256 + b) * 256 + c) * 256 + d) / 256 % 256 ≡ c
third_of a b c d p q r t = omega arith

fourth_of : (a b c d : ℕ) → a < 256 → b < 256 → c < 256 → d < 256 → (((a * 256 + b) * 256 + c) * 256 + d) % 256 ≡ d
fourth_of a b c d p q r t = omega arith

pub split4 : (a b c d : ℕ) → a < 256 → b < 256 → c < 256 → d < 256 → bytes4 (((a * 256 + b) * 256 + c) * 256 + d) ≡ a ∷ b ∷ c ∷ d ∷ []
split4 a b c d p q r t = λ i. first_of a b c d p q r t i ∷ second_of a b c d p q r t i ∷ third_of a b c d p q r t i ∷ fourth_of a b c d p q r t i ∷ []
