-- What a decimal number says: read digit by digit it is the number, and its first digit is 0 for 0 alone.
-- Assumes nothing.
use Prim.Native.Nat.{ℕ, zero, suc, ◌+◌, ◌*◌, ◌-◌, ◌/◌, ◌%◌, ◌≤◌, ◌<◌}
use native.Mathlib.Omega.{arith}
use mathlib.Core.Path.{◌≡◌, refl, sym, ◌∙◌, ap}
use mathlib.Core.Bool.{Bool, true, false, cond}
use mathlib.Core.List.{List, [], ◌∷◌, ◌++◌}
use lib.Dec.{ltb}
use lib.ListN.{length, get_or, length-append}
use borrow.Author.Tests.{lt-ltb, ltb-true, ltb-false}
use Rattle.report.specs.Text.{digit, decimal}
use Rattle.report.proofs.Digits.{one_digit, last_digit}

-- the digits read from the first to the last, behind a number that was read before
abbrev pub read_on : ℕ → List ℕ → ℕ
read_on n [] = n
read_on n (d ∷ s) = read_on (n * 10 + (d - 48)) s

read_last : (n : ℕ) (s : List ℕ) (d : ℕ) → read_on n (s ++ d ∷ []) ≡ read_on n s * 10 + (d - 48)
read_last n [] d = refl
read_last n (c ∷ s) d = read_last (n * 10 + (c - 48)) s d

digit_is : (d : ℕ) → d < 10 → digit d ≡ 48 + d
digit_is d h = ap (λ (t : Bool). cond t (48 + d) (87 + d)) (lt-ltb d 10 h)

-- a number that is proved for its tenth is proved: each is below as many steps
by_tenths : (P : ℕ → Type 0) → ((n : ℕ) → n < 10 → P n) → ((n : ℕ) → 10 ≤ n → P (n / 10) → P n) → (n : ℕ) → P n
by_tenths P small large n = go (suc n) n (omega arith)
  where
    split : (n k : ℕ) → n < suc k → (n / 10 < k → P (n / 10)) → (t : Bool) → ltb n 10 ≡ t → P n
    split n k h rest true e = small n (ltb-true n 10 e)
    split n k h rest false e = large n (ltb-false n 10 e) (rest (omega (arith, ltb-false n 10 e)))

    go : (k n : ℕ) → n < k → P n
    go zero n h = absurd (omega arith)
    go (suc k) n h = split n k h (λ g. go k (n / 10) g) (ltb n 10) refl

pub reads_back : (n : ℕ) → read_on 0 (decimal n) ≡ n
reads_back = by_tenths (λ n. read_on 0 (decimal n) ≡ n) one more
  where
    one : (n : ℕ) → n < 10 → read_on 0 (decimal n) ≡ n
    one n h = ap (read_on 0) (one_digit n h) ∙ omega (arith, digit_is n h)

    more : (n : ℕ) → 10 ≤ n → read_on 0 (decimal (n / 10)) ≡ n / 10 → read_on 0 (decimal n) ≡ n
    more n h e = ap (read_on 0) (last_digit n h) ∙ read_last 0 (decimal (n / 10)) (digit (n % 10)) ∙ omega (arith, e, digit_is (n % 10) (omega arith))

some_digit : (n : ℕ) → 1 ≤ length (decimal n)
some_digit n = go (ltb n 10) refl
  where
    go : (t : Bool) → ltb n 10 ≡ t → 1 ≤ length (decimal n)
    go true e = omega (arith, ap length (one_digit n (ltb-true n 10 e)))
    go false e = omega (arith, ap length (last_digit n (ltb-false n 10 e)), length-append (decimal (n / 10)) (digit (n % 10) ∷ []))

first : (s : List ℕ) (d : ℕ) → 1 ≤ length s → get_or s 0 0 ≡ get_or (s ++ d ∷ []) 0 0
first [] d h = absurd (omega arith)
first (c ∷ s) d h = refl

pub no_leading_zero : (n : ℕ) → 1 ≤ n → get_or (decimal n) 0 0 ≡ 48 → ⊥
no_leading_zero = by_tenths (λ n. 1 ≤ n → get_or (decimal n) 0 0 ≡ 48 → ⊥) one more
  where
    one : (n : ℕ) → n < 10 → 1 ≤ n → get_or (decimal n) 0 0 ≡ 48 → ⊥
    one n h g e = omega (arith, digit_is n h, ap (λ (s : List ℕ). get_or s 0 0) (one_digit n h))

    more : (n : ℕ) → 10 ≤ n → (1 ≤ n / 10 → get_or (decimal (n / 10)) 0 0 ≡ 48 → ⊥) → 1 ≤ n → get_or (decimal n) 0 0 ≡ 48 → ⊥
    more n h rest g e = rest (omega arith) (first (decimal (n / 10)) (digit (n % 10)) (some_digit (n / 10)) ∙ ap (λ (s : List ℕ). get_or s 0 0) (sym (last_digit n h)) ∙ e)
