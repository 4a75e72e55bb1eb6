-- Action sets by bits: an action is in what two sets share if it is in both, and a subset has no other actions.
-- Assumes nothing.
use Prim.Native.Nat.{ℕ, zero, suc, ◌+◌, ◌*◌, ◌/◌, ◌%◌, ◌^◌, ◌<◌, min}
use native.Mathlib.Omega.{arith}
use native.Mathlib.Nat.{zero-div, div-div-eq-div-mul, mul_comm, pow-suc}
use mathlib.Core.Path.{◌≡◌, refl, sym, ◌∙◌, ap, ap₂}
use mathlib.Core.Bool.{Bool, true, false, ◌&&◌}
use lib.Arith.{bin_ind}
use lib.Bits.{bit_and, and_step, and_shr, and_comm, and_self}
use lib.Dec.{eqb}
use borrow.Author.Tests.{eqb-true, eqb-false, eq-eqb}
use Rattle.policy.specs.Actions.{has, subset}
use Rattle.policy.proofs.Bool.{clash}

and_half : (a b : ℕ) → bit_and a b / 2 ≡ bit_and (a / 2) (b / 2)
and_half a b = and_shr a b 1

and_odd : (a b : ℕ) → bit_and a b % 2 ≡ min (a % 2) (b % 2)
and_odd a b = go (bit_and a b) (bit_and (a / 2) (b / 2)) (and_step a b)
  where
    go : (x y : ℕ) → x ≡ y * 2 + min (a % 2) (b % 2) → x % 2 ≡ min (a % 2) (b % 2)
    go x y e = omega arith

min_assoc : (a b c : ℕ) → min (min a b) c ≡ min a (min b c)
min_assoc a b c = omega arith

pub and_assoc : (a b c : ℕ) → bit_and (bit_and a b) c ≡ bit_and a (bit_and b c)
and_assoc a =
    bin_ind (λ (n : ℕ). (b c : ℕ) → bit_and (bit_and n b) c ≡ bit_and n (bit_and b c)) (λ b c. refl)
    (λ n ih b c.
    and_step (bit_and n b) c
    ∙ ap₂ (λ (x y : ℕ). bit_and x (c / 2) * 2 + min y (c % 2)) (and_half n b) (and_odd n b)
    ∙ ap₂ (λ (x y : ℕ). x * 2 + y) (ih (b / 2) (c / 2)) (min_assoc (n % 2) (b % 2) (c % 2))
    ∙ sym (ap₂ (λ (x y : ℕ). bit_and (n / 2) x * 2 + min (n % 2) y) (and_half b c) (and_odd b c))
    ∙ sym (and_step n (bit_and b c))) a

pub has_both : (k a b : ℕ) → has k (bit_and a b) ≡ (has k a && has k b)
has_both k a b =
    ap (λ (x : ℕ). eqb x 1) (ap (◌% 2) (and_shr a b k) ∙ and_odd (a / 2 ^ k) (b / 2 ^ k))
    ∙ digit (a / 2 ^ k % 2) (b / 2 ^ k % 2) (omega arith) (omega arith)
  where
    digit : (x y : ℕ) → x < 2 → y < 2 → eqb (min x y) 1 ≡ (eqb x 1 && eqb y 1)
    digit zero zero p q = refl
    digit zero (suc zero) p q = refl
    digit (suc zero) zero p q = refl
    digit (suc zero) (suc zero) p q = refl
    digit zero (suc (suc y)) p q = absurd (omega arith)
    digit (suc zero) (suc (suc y)) p q = absurd (omega arith)
    digit (suc (suc x)) y p q = absurd (omega arith)

-- a part of two sets is a part of what they have in common, and the other way round
pub part_both : (a b c : ℕ) → bit_and a b ≡ a → bit_and a c ≡ a → bit_and a (bit_and b c) ≡ a
part_both a b c p q = sym (and_assoc a b c) ∙ ap (λ (x : ℕ). bit_and x c) p ∙ q

pub part_left : (a b : ℕ) → bit_and (bit_and a b) a ≡ bit_and a b
part_left a b = and_comm (bit_and a b) a ∙ sym (and_assoc a a b) ∙ ap (λ (x : ℕ). bit_and x b) (and_self a)

pub part_right : (a b : ℕ) → bit_and (bit_and a b) b ≡ bit_and a b
part_right a b = and_assoc a b b ∙ ap (bit_and a) (and_self b)

-- a part of what two sets have in common is a part of each
pub part_first : (a b c : ℕ) → bit_and a (bit_and b c) ≡ a → bit_and a b ≡ a
part_first a b c e =
    ap (λ (x : ℕ). bit_and x b) (sym e) ∙ and_assoc a (bit_and b c) b ∙ ap (bit_and a) (part_left b c) ∙ e

pub part_second : (a b c : ℕ) → bit_and a (bit_and b c) ≡ a → bit_and a c ≡ a
part_second a b c e =
    ap (λ (x : ℕ). bit_and x c) (sym e) ∙ and_assoc a (bit_and b c) c ∙ ap (bit_and a) (part_right b c) ∙ e

-- the empty set has no action, and no other set
pub has_none : (k : ℕ) → has k 0 ≡ false
has_none k = ap (λ (x : ℕ). eqb (x % 2) 1) (zero-div (2 ^ k))

halve : (n k : ℕ) → n / 2 / 2 ^ k ≡ n / 2 ^ suc k
halve n k = div-div-eq-div-mul n 2 (2 ^ k) ∙ ap (n /◌) (mul_comm 2 (2 ^ k) ∙ sym (pow-suc 2 k))

pub none_empty : (a : ℕ) → ((k : ℕ) → has k a ≡ false) → a ≡ 0
none_empty =
    bin_ind (λ (n : ℕ). ((k : ℕ) → has k n ≡ false) → n ≡ 0) (λ f. refl)
    (λ n ih f. end n (ih λ k. ap (λ (x : ℕ). eqb (x % 2) 1) (halve n k) ∙ f (suc k)) (f 0))
  where
    end : (n : ℕ) → n / 2 ≡ 0 → eqb (n / 1 % 2) 1 ≡ false → n ≡ 0
    end n z o = omega (arith, eqb-false (n / 1 % 2) 1 o)

-- an action of a part is one of the whole
pub has_part : (k a b : ℕ) → bit_and a b ≡ a → has k a ≡ true → has k b ≡ true
has_part k a b p h = go (has k a) (has k b) (sym (has_both k a b) ∙ ap (has k) p ∙ h)
  where
    go : (x y : Bool) → (x && y) ≡ true → y ≡ true
    go true y e = e
    go false true e = refl
    go false false e = e

-- two sets with the same actions are one
pub same_actions : (a b : ℕ) → ((k : ℕ) → has k a ≡ has k b) → a ≡ b
same_actions =
    bin_ind (λ (n : ℕ). (b : ℕ) → ((k : ℕ) → has k n ≡ has k b) → n ≡ b)
    (λ b f. sym (none_empty b λ k. sym (f k) ∙ has_none k))
    (λ n ih b f. whole n b (ih (b / 2) λ k. next n k ∙ f (suc k) ∙ sym (next b k)) (low n b (f 0)))
  where
    next : (n k : ℕ) → has k (n / 2) ≡ has (suc k) n
    next n k = ap (λ (x : ℕ). eqb (x % 2) 1) (halve n k)

    digit : (x y : ℕ) → x < 2 → y < 2 → eqb x 1 ≡ eqb y 1 → x ≡ y
    digit zero zero p q e = refl
    digit zero (suc zero) p q e = clash refl (sym e)
    digit (suc zero) zero p q e = clash refl e
    digit (suc zero) (suc zero) p q e = refl
    digit zero (suc (suc y)) p q e = absurd (omega arith)
    digit (suc zero) (suc (suc y)) p q e = absurd (omega arith)
    digit (suc (suc x)) y p q e = absurd (omega arith)

    low : (n b : ℕ) → has 0 n ≡ has 0 b → n / 1 % 2 ≡ b / 1 % 2
    low n b e = digit (n / 1 % 2) (b / 1 % 2) (omega arith) (omega arith) e

    whole : (n b : ℕ) → n / 2 ≡ b / 2 → n / 1 % 2 ≡ b / 1 % 2 → n ≡ b
    whole n b p q = omega arith

-- a subset is one whose every action is in the other
pub subset_tells : (a b : ℕ) → subset a b ≡ true → (k : ℕ) → has k a ≡ true → has k b ≡ true
subset_tells a b s k h = has_part k a b (eqb-true (bit_and a b) a s) h

pub subset_by : (a b : ℕ) → ((k : ℕ) → has k a ≡ true → has k b ≡ true) → subset a b ≡ true
subset_by a b f = eq-eqb (bit_and a b) a (same_actions (bit_and a b) a λ k. has_both k a b ∙ go (has k a) (has k b) (f k))
  where
    go : (x y : Bool) → (x ≡ true → y ≡ true) → (x && y) ≡ x
    go true y g = g refl
    go false y g = refl
