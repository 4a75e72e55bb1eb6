-- Which entries count as crossed in a file of a version, test by test.
-- Assumes nothing.
use Prim.Native.Nat.{ℕ}
use mathlib.Core.Path.{◌≡◌, sym, ◌∙◌, ap, ap₂}
use mathlib.Core.Bool.{Bool, true, false, not, ◌&&◌, ◌||◌}
use lib.Dec.{eqb}
use borrow.Author.Tests.{eq-eqb, ne_eqb}
use Rattle.policy.specs.declared.entry.Entry.{Entry}
use Rattle.policy.specs.Entry.{crossed}
use Rattle.wire.specs.Writing.{both_ways, crossed_in}

module _ (v : ℕ) (e : Entry) (t : Bool) (q : t ≡ crossed e) where
  pub crossed_anyway : t ≡ true → t ≡ crossed_in v e
  crossed_anyway c = c ∙ sym (ap (◌|| (eqb v 1 && not (both_ways e))) (sym q ∙ c))

  pub crossed_in_none : t ≡ false → (v ≡ 1 → ⊥) → eqb v 1 ≡ crossed_in v e
  crossed_in_none c n = ne_eqb v 1 n ∙ sym (ap₂ (λ (a b : Bool). a || (b && not (both_ways e))) (sym q ∙ c) (ne_eqb v 1 n))

  pub crossed_by_ways : (u : Bool) → t ≡ false → v ≡ 1 → u ≡ both_ways e → not u ≡ crossed_in v e
  crossed_by_ways u c one w = ap not w ∙ sym (ap₂ (λ (a b : Bool). a || (b && not (both_ways e))) (sym q ∙ c) (eq-eqb v 1 one))
