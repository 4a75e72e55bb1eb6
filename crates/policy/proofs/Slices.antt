-- The rows of a slice: how many, the first and the others, and those of a part of it.
-- Assumes nothing.
use Prim.Native.Nat.{ℕ, zero, suc, ◌<◌, ◌≤◌, ◌+◌, ◌*◌}
use native.Mathlib.Omega.{arith}
use native.Mathlib.Nat.{zero-add, add-zero, suc-add}
use mathlib.Core.Path.{◌≡◌, refl, sym, ◌∙◌, ap, ap₂}
use mathlib.Core.List.{List, ◌∷◌, ◌++◌}
use lib.ListN.{length, get_or, take}
use lib.Seq.{get_or-take}
use Rattle.policy.specs.declared.entry.Entry.{Entry}
use Rattle.policy.specs.Header.{arity}
use Rattle.policy.specs.Entry.{entry}
use Rattle.policy.specs.Sides.{field, box_of}
use Rattle.policy.specs.steps.Rows.{sides, row_size, row_at, rows_from}
use Rattle.policy.proofs.Conjunctions.{ends_are}
use Rattle.policy.proofs.Every.{row_ext}

pub length_rows : (s : List ℕ) (at n : ℕ) → length (rows_from s at n) ≡ n
length_rows s at zero = refl
length_rows s at (suc n) = ap suc (length_rows s (at + row_size) n)

onward : (at k : ℕ) → at + row_size + row_size * k ≡ at + row_size * suc k
onward at k = omega arith

-- the k-th of them
pub rows_at : (s : List ℕ) (at n k : ℕ) (d : Entry) → k < n → get_or (rows_from s at n) k d ≡ row_at s (at + row_size * k)
rows_at s at zero k d l = absurd (none_below k l)
  where
    none_below : (k : ℕ) → k < 0 → ⊥
    none_below k l = omega arith
rows_at s at (suc n) zero d l = ap (row_at s) (sym (add-zero at))
rows_at s at (suc n) (suc k) d l = rows_at s (at + row_size) n k d (omega arith) ∙ ap (row_at s) (onward at k)

-- the first n and m more
pub rows_split : (s : List ℕ) (at n m : ℕ) → rows_from s at (n + m) ≡ rows_from s at n ++ rows_from s (at + row_size * n) m
rows_split s at zero m = ap₂ (rows_from s) (sym (add-zero at)) (zero-add m)
rows_split s at (suc n) m =
    ap (rows_from s at) (suc-add n m)
    ∙ ap (row_at s at ∷◌) (rows_split s (at + row_size) n m ∙ ap (λ (x : ℕ). rows_from s (at + row_size) n ++ rows_from s x m) (onward at n))

-- two slices that agree on the numbers of n rows have the same rows there
same_rows : (s t : List ℕ) (at n m : ℕ) → at + row_size * n ≤ m → ((i : ℕ) → i < m → get_or s i 0 ≡ get_or t i 0) → rows_from s at n ≡ rows_from t at n
unfolding box_of
same_rows s t at zero m l f = refl
same_rows s t at (suc n) m l f =
    ap₂ (◌∷◌)
    (ap₂ entry (row_ext arity (field s at) (field t at) λ j k. ends_are (f (2 * j + at) (omega arith)) (f (2 * j + 1 + at) (omega arith))) (f (at + sides) (omega arith)))
    (same_rows s t (at + row_size) n m (omega arith) f)

pub rows_take : (s : List ℕ) (m at n : ℕ) → at + row_size * n ≤ m → rows_from (take m s) at n ≡ rows_from s at n
rows_take s m at n l = same_rows (take m s) s at n m l λ i k. get_or-take m s i 0 k
