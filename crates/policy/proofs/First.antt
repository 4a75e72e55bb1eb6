-- What counting up to a number finds: the only law that opens it.
-- Assumes nothing.
use Rattle.std.specs.Prelude.{None, Option, Some}
use Rattle.policy.specs.declared.header.Header.{Header}
use Prim.Native.Nat.{ℕ, zero, suc, ◌<◌, ◌≤◌}
use native.Mathlib.Omega.{arith}
use mathlib.Core.Path.{◌≡◌, refl, ap, ◌∙◌}
use mathlib.Core.Bool.{Bool, true, false}
use lib.Dec.{ltb}
use borrow.Author.Tests.{ltb-true, ltb-false}
use Rattle.policy.specs.Found.{or_else}
use Rattle.policy.specs.Least.{first}

-- r is what f finds at the least number below n at which it finds something
abbrev pub First : ℕ → (ℕ → Option Header) → Option Header → Type 0
First n f (Some h) = (m : ℕ) × (m < n) × (f m ≡ Some h) × ((j : ℕ) → j < m → f j ≡ None)
First n f None = (j : ℕ) → j < n → f j ≡ None

pub first_is : (n : ℕ) (f : ℕ → Option Header) → First n f (first n f)
unfolding first
first_is zero f = λ j l. absurd (none j l)
  where
    none : (j : ℕ) → j < 0 → ⊥
    none j l = omega arith
first_is (suc n) f = go (first n f) (first_is n f) (f n) refl
  where
    up : (m : ℕ) → m < n → m < suc n
    up m l = omega arith

    at_last : (j : ℕ) → j < suc n → n ≤ j → j ≡ n
    at_last j l m = omega arith

    none : f n ≡ None → ((j : ℕ) → j < n → f j ≡ None) → (j : ℕ) → j < suc n → (b : Bool) → ltb j n ≡ b → f j ≡ None
    none e p j l true t = p j (ltb-true j n t)
    none e p j l false t = ap f (at_last j l (ltb-false j n t)) ∙ e

    go : (r : Option Header) → First n f r → (s : Option Header) → f n ≡ s → First (suc n) f (or_else r s)
    go (Some h) p s e = (p.0, up p.0 p.1, p.2, p.3)
    go None p (Some h) e = (n, omega arith, e, p)
    go None p None e = λ j l. none e p j l (ltb j n) refl
