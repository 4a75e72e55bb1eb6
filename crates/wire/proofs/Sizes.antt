-- The sizes of records, and where they start: for every version, so that no law knows a size.
-- Assumes nothing.
use Prim.Native.Nat.{ℕ, ◌+◌, ◌*◌, ◌-◌, ◌/◌, ◌<◌, ◌≤◌, min}
use native.Mathlib.Omega.{arith}
use native.Mathlib.Nat.{mul-add, mul-one, mul-le-mul_left, mul-le-mul_right, mul-div_right, mul-div-le, zero-add}
use mathlib.Core.Path.{◌≡◌, sym, ◌∙◌, ap}
use mathlib.Core.Bool.{Bool, true, false, cond}
use mathlib.Core.List.{List}
use lib.Dec.{eqb}
use lib.ListN.{length}
use borrow.Author.Tests.{eq-eqb, ne_eqb}
use Rattle.wire.specs.Format.{head_size, filed_limit, record_size, file_size, version_in, place_in, records_in}

-- what the code's tests of the version show
pub size_one : (v : ℕ) → v ≡ 1 → 28 ≡ record_size v
size_one v e = sym (ap (λ (b : Bool). cond b 28 30) (eq-eqb v 1 e))

pub size_other : (v : ℕ) → (v ≡ 1 → ⊥) → 30 ≡ record_size v
size_other v n = sym (ap (λ (b : Bool). cond b 28 30) (ne_eqb v 1 n))

pub size_least : (v : ℕ) → 28 ≤ record_size v
size_least v = go (eqb v 1)
  where
    go : (b : Bool) → 28 ≤ cond b 28 30
    go true = omega arith
    go false = omega arith

pub size_most : (v : ℕ) → record_size v ≤ 30
size_most v = go (eqb v 1)
  where
    go : (b : Bool) → cond b 28 30 ≤ 30
    go true = omega arith
    go false = omega arith

pub records_most : (v n : ℕ) → record_size v * n ≤ 30 * n
records_most v n = mul-le-mul_right n (size_most v)

pub records_least : (v n : ℕ) → 28 * n ≤ record_size v * n
records_least v n = mul-le-mul_right n (size_least v)

-- one record more
pub size_next : (v n : ℕ) → file_size v (n + 1) ≡ file_size v n + record_size v
size_next v n = let m : record_size v * (n + 1) ≡ record_size v * n + record_size v * 1 = mul-add (record_size v) n 1 in let o : record_size v * 1 ≡ record_size v = mul-one (record_size v) in omega arith

-- a file of n entries has all of record number i below n
pub size_within : (v i n : ℕ) → i ≤ n → file_size v i ≤ file_size v n
size_within v i n l = let m : record_size v * i ≤ record_size v * n = mul-le-mul_left (record_size v) l in omega arith

-- so that each of the first n entries is there, if the n-th would start within the file
pub entry_within : (s : List ℕ) (i n : ℕ) → i < n → place_in s n ≤ length s → place_in s (i + 1) ≤ length s
entry_within s i n l m = let k = size_within (version_in s) (i + 1) n (omega arith) in omega arith

pub entry_there : (s : List ℕ) (i n : ℕ) → i < n → length s ≡ place_in s n → place_in s (i + 1) ≤ length s
entry_there s i n l e = entry_within s i n l (omega arith)

pub before_there : (s : List ℕ) (i n : ℕ) → i < n → length s ≡ place_in s n → place_in s i ≤ length s
before_there s i n l e = let k = size_within (version_in s) i n (omega arith) in omega arith

-- the one before number i, the last of all, and the last few
pub next_below : (s : List ℕ) (i n : ℕ) → 0 < i → i ≤ n → length s ≡ place_in s n → place_in s (i - 1 + 1) ≤ length s
next_below s i n l m e = entry_there s (i - 1) n (omega arith) e

pub last_there : (s : List ℕ) (n : ℕ) → 1 ≤ n → length s ≡ place_in s n → place_in s (n - 1 + 1) ≤ length s
last_there s n l e = next_below s n n l (omega arith) e

pub last_few_there : (s : List ℕ) (n k : ℕ) → k ≤ filed_limit → filed_limit < n → place_in s n ≤ length s → place_in s (n - k + k) ≤ length s
last_few_there s n k l m p = let w : place_in s (n - k + k) ≡ place_in s n = ap (place_in s) (whole n k l m) in omega arith
  where
    whole : (n k : ℕ) → k ≤ filed_limit → filed_limit < n → n - k + k ≡ n
    whole n k l m = omega arith

-- a file of n entries has as many records
pub records_counted : (s : List ℕ) (n : ℕ) → length s ≡ place_in s n → records_in s ≡ n
records_counted s n e =
    ap (λ (k : ℕ). (k - head_size) / record_size (version_in s)) e
    ∙ ap (◌/ record_size (version_in s)) (behind (record_size (version_in s) * n))
    ∙ mul-div_right n (omega (arith, size_least (version_in s)))
  where
    behind : (k : ℕ) → head_size + k - head_size ≡ k
    behind k = omega arith

-- as many as there are, are there
pub counted_there : (s : List ℕ) (n : ℕ) → head_size ≤ length s → n ≤ records_in s → place_in s n ≤ length s
counted_there s n h l =
    let v = version_in s in
    let a : record_size v * n ≤ record_size v * records_in s = mul-le-mul_left (record_size v) l in
    let b : record_size v * records_in s ≤ length s - head_size = mul-div-le (length s - head_size) (record_size v) in
    omega arith

pub first_counted : (s : List ℕ) (n : ℕ) → head_size ≤ length s → n ≡ min (records_in s) filed_limit → place_in s (0 + n) ≤ length s
first_counted s n h e = let m : place_in s (0 + n) ≡ place_in s n = ap (place_in s) (zero-add n) in omega (arith, counted_there s n h (omega arith))

-- and there is a head before the first
pub counted_entry : (s : List ℕ) (i : ℕ) → i < records_in s → place_in s (i + 1) ≤ length s
counted_entry s i l =
    let v = version_in s in
    let m : i + 1 ≤ records_in s = omega arith in
    let a : record_size v * (i + 1) ≤ record_size v * records_in s = mul-le-mul_left (record_size v) m in
    let b : record_size v * records_in s ≤ length s - head_size = mul-div-le (length s - head_size) (record_size v) in
    let c = records_least v (i + 1) in
    omega arith

-- ---- what the code makes of a size
