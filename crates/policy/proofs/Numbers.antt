-- Rows of numbers laid one after the other are the entries that they were made of.
-- Assumes nothing.
use Prim.Native.Nat.{ℕ, zero, suc, ◌+◌, ◌*◌, ◌/◌}
use native.Mathlib.Omega.{arith}
use mathlib.Core.Path.{◌≡◌, refl, sym, ◌∙◌, ap, ap₂}
use mathlib.Core.List.{List, [], ◌∷◌, ◌++◌, append_assoc}
use lib.ListN.{length, get_or, length-append}
use lib.Seq.{get_or-append-add}
use Rattle.policy.specs.declared.entry.Entry.{Entry}
use Rattle.policy.specs.Header.{arity}
use Rattle.policy.specs.Entry.{entry, selector}
use Rattle.policy.specs.Sides.{field, box_of}
use Rattle.policy.specs.steps.Rows.{sides, row_size, row_at, rows_from, rows_in, numbers_of, all_numbers}
use Rattle.policy.proofs.Conjunctions.{ends_are}
use Rattle.policy.proofs.Every.{row_ext}

-- the rows of numbers after other numbers
module _ (p s : List ℕ) where
  after : (at k i : ℕ) → i ≡ length p + k → get_or (p ++ s) i 0 ≡ get_or s k 0
  after at k i e = ap (λ (j : ℕ). get_or (p ++ s) j 0) e ∙ get_or-append-add p s k 0

  box_after : (at : ℕ) → box_of (p ++ s) (length p + at) ≡ box_of s at
  unfolding box_of
  box_after at = row_ext arity (field (p ++ s) (length p + at)) (field s at) λ j l.
      ends_are (after at (2 * j + at) (2 * j + (length p + at)) (low j (length p))) (after at (2 * j + 1 + at) (2 * j + 1 + (length p + at)) (high j (length p)))
    where
      low : (j n : ℕ) → 2 * j + (n + at) ≡ n + (2 * j + at)
      low j n = omega arith

      high : (j n : ℕ) → 2 * j + 1 + (n + at) ≡ n + (2 * j + 1 + at)
      high j n = omega arith

  pub rows_after : (at n : ℕ) → rows_from (p ++ s) (length p + at) n ≡ rows_from s at n
  rows_after at zero = refl
  rows_after at (suc n) =
      ap₂ (◌∷◌) (ap₂ entry (box_after at) (after at (at + sides) (length p + at + sides) (onward (length p) sides)))
      (ap (λ (k : ℕ). rows_from (p ++ s) k n) (onward (length p) row_size) ∙ rows_after (at + row_size) n)
    where
      onward : (m k : ℕ) → m + at + k ≡ m + (at + k)
      onward m k = omega arith

-- an entry's row is the entry, and its sides are the selector
row_is : (e : Entry) (t : List ℕ) → row_at (numbers_of e ++ t) 0 ≡ e
unfolding box_of
row_is e t = refl

pub row_selector : (e : Entry) (s : List ℕ) → s ≡ numbers_of e → box_of s 0 ≡ selector e
unfolding box_of
row_selector e s p = ap (λ (s : List ℕ). box_of s 0) p

pub rows_are : (es : List Entry) → rows_from (all_numbers es) 0 (length es) ≡ es
rows_are [] = refl
rows_are (e ∷ es) = ap₂ (◌∷◌) (row_is e (all_numbers es)) (rows_after (numbers_of e) (all_numbers es) 0 (length es) ∙ rows_are es)

pub length_numbers : (es : List Entry) → length (all_numbers es) ≡ row_size * length es
length_numbers [] = refl
length_numbers (e ∷ es) = length-append (numbers_of e) (all_numbers es) ∙ more (length (all_numbers es)) (length es) (length_numbers es)
  where
    more : (n k : ℕ) → n ≡ row_size * k → row_size + n ≡ row_size * suc k
    more n k e = omega arith

pub numbers_in_lem : (es : List Entry) → rows_in (all_numbers es) ≡ es
numbers_in_lem es = ap (rows_from (all_numbers es) 0) (whole (length (all_numbers es)) (length es) (length_numbers es)) ∙ rows_are es
  where
    whole : (n k : ℕ) → n ≡ row_size * k → n / row_size ≡ k
    whole n k e = omega arith

pub numbers_append : (es ds : List Entry) → all_numbers (es ++ ds) ≡ all_numbers es ++ all_numbers ds
numbers_append [] ds = refl
numbers_append (e ∷ es) ds = ap (numbers_of e ++◌) (numbers_append es ds) ∙ sym (append_assoc (numbers_of e) (all_numbers es) (all_numbers ds))
