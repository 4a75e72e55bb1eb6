-- What the loops over the fields show of a row that holds the low corner of a box, or its end.
-- Assumes nothing.
use Rattle.std.proofs.Common.{◌≡◌, ℕ, zero, suc, ◌<◌, ◌≤◌, Bool, true, false, ◌&&◌, leb, List, refl, ap, ◌∙◌, le-leb}
use borrow.Author.Tests.{lt-leb}
use Rattle.policy.specs.Box.{Range, within, inside}
use Rattle.policy.specs.steps.Boxes.{lows}
use Rattle.policy.specs.Header.{arity}
use Rattle.policy.specs.Sides.{row_of, field, box_of}
use Rattle.policy.proofs.Every.{every, every_passed, one_fails, inside_every}
use Rattle.policy.proofs.Conjunctions.{paired}
use Rattle.region.specs.steps.Corner.{reaches}

lows_fields : (k : ℕ) (h : ℕ → Range) → row_of k (λ j. (h j).low) ≡ lows k (row_of k h)
lows_fields zero h = refl
lows_fields (suc k) h = paired refl (lows_fields k (λ j. h (suc j)))

pub reaches_every : (k : ℕ) (g h : ℕ → Range) → every k (λ j. leb (h j).high (g j).high) ≡ reaches k (row_of k g) (row_of k h)
reaches_every zero g h = refl
reaches_every (suc k) g h = ap (leb (h 0).high (g 0).high &&◌) (reaches_every k (λ j. g (suc j)) (λ j. h (suc j)))

module _ (s : List ℕ) (at : ℕ) (b : List ℕ) where
  -- the row at a place holds the low of b, and ends not before b, in a field
  abbrev pub holds_at : ℕ → Bool
  holds_at j = within (field s at j) (field b 0 j).low

  abbrev pub reaches_at : ℕ → Bool
  reaches_at j = leb (field b 0 j).high (field s at j).high

  holds_is : every arity holds_at ≡ inside arity (box_of s at) (lows arity (box_of b 0))
  unfolding box_of
  holds_is = inside_every arity (field s at) (λ j. (field b 0 j).low) ∙ ap (inside arity (row_of arity (field s at))) (lows_fields arity (field b 0))

  reaches_is : every arity reaches_at ≡ reaches arity (box_of s at) (box_of b 0)
  unfolding box_of
  reaches_is = reaches_every arity (field s at) (field b 0)

-- ---- what asks every field: a test that is true of each is true of the row, and one field that fails it decides

every_is : (k : ℕ) (t : ℕ → Bool) (r : Bool) → (r ≡ true → (j : ℕ) → j < k → t j ≡ true) → (r ≡ false → (j : ℕ) × (j < k) × (t j ≡ false)) → r ≡ every k t
every_is k t true p q = every_passed k t (p refl)
every_is k t false p q = let f = q refl in one_fails k f.0 t f.1 f.2

module _ (s : List ℕ) (at : ℕ) (b : List ℕ) (r : Bool) where
  pub corner_is : (r ≡ true → (j : ℕ) → j < arity → holds_at s at b j ≡ true) → (r ≡ false → (j : ℕ) × (j < arity) × (holds_at s at b j ≡ false))
      → r ≡ inside arity (box_of s at) (lows arity (box_of b 0))
  corner_is p q = every_is arity (holds_at s at b) r p q ∙ holds_is s at b

  pub ends_are : (r ≡ true → (j : ℕ) → j < arity → (field b 0 j).high ≤ (field s at j).high) → (r ≡ false → (j : ℕ) × (j < arity) × ((field s at j).high < (field b 0 j).high))
      → r ≡ reaches arity (box_of s at) (box_of b 0)
  ends_are p q =
      every_is arity (reaches_at s at b) r (λ e j l. le-leb (field b 0 j).high (field s at j).high (p e j l))
      (λ e. let f = q e in (f.0, f.1, lt-leb (field b 0 f.0).high (field s at f.0).high f.2))
      ∙ reaches_is s at b
