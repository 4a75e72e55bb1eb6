-- Rows: k values of one type. A header's numbers and a selector's ranges are rows, so that no law names a field.
use Rattle.std.specs.Prelude.{ℕ, zero, suc, Bool, false, ◌&&◌, ◌||◌, ltb, eqb}

-- k values of one type, as nested pairs
abbrev pub Row : Type 0 → ℕ → Type 0
Row A zero = Unit {0}
Row A (suc k) = A × Row A k

-- the order of rows of numbers: the first number that differs decides
abbrev pub precedes : (k : ℕ) → Row ℕ k → Row ℕ k → Bool
precedes zero x y = false
precedes (suc k) x y = ltb x.0 y.0 || (eqb x.0 y.0 && precedes k x.1 y.1)
