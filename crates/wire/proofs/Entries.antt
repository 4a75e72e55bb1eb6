-- The records of a file, as entries.
-- Assumes nothing.
use Prim.Native.Nat.{ℕ, zero, suc, ◌+◌, ◌*◌, ◌-◌, ◌<◌}
use native.Mathlib.Omega.{arith}
use mathlib.Core.Path.{◌≡◌, refl, sym, ◌∙◌, ap, ap₂}
use mathlib.Core.Bool.{Bool, true, false, cond}
use mathlib.Core.List.{List, ◌∷◌, ◌++◌}
use native.Mathlib.Nat.{zero-add, add-zero, suc-add}
use lib.Dec.{eqb}
use lib.ListN.{length, get_or}
use Rattle.policy.specs.declared.entry.Entry.{Entry}
use Rattle.policy.specs.Box.{range}
use Rattle.wire.specs.Format.{record_size, file_size, version_in, number2, number4, directions_at, entry_at, entries_as, entries_from}
use Rattle.wire.specs.steps.Numbered.{entry_in}
use Rattle.wire.proofs.Sizes.{size_least}

-- two slices that agree on the bytes of a record, which start at a in s and at b in t, have the same entry there
module _ (v : ℕ) (s t : List ℕ) (a b : ℕ) (f : (i : ℕ) → i < record_size v → get_or s (a + i) 0 ≡ get_or t (b + i) 0) where
  same_byte : (i x y : ℕ) → i < record_size v → x ≡ a + i → y ≡ b + i → get_or s x 0 ≡ get_or t y 0
  same_byte i x y l p q = ap (λ (k : ℕ). get_or s k 0) p ∙ f i l ∙ sym (ap (λ (k : ℕ). get_or t k 0) q)

  same_number2 : (i x y : ℕ) → i + 1 < record_size v → x ≡ a + i → y ≡ b + i → number2 s x ≡ number2 t y
  same_number2 i x y l p q =
      ap₂ (λ (m n : ℕ). m * 256 + n) (same_byte i x y (omega arith) p q) (same_byte (i + 1) (x + 1) (y + 1) l (omega arith) (omega arith))

  same_number4 : (i x y : ℕ) → i + 3 < record_size v → x ≡ a + i → y ≡ b + i → number4 s x ≡ number4 t y
  same_number4 i x y l p q =
      ap₂ (λ (m n : ℕ). m * 256 + n)
      (ap₂ (λ (m n : ℕ). m * 256 + n)
      (same_number2 i x y (omega arith) p q)
      (same_byte (i + 2) (x + 2) (y + 2) (omega arith) (omega arith) (omega arith)))
      (same_byte (i + 3) (x + 3) (y + 3) l (omega arith) (omega arith))

  same_directions : (c : Bool) → ((i : ℕ) → i < cond c 28 30 → get_or s (a + i) 0 ≡ get_or t (b + i) 0)
      → cond c (range 0 1) (range (get_or s (a + 26) 0) (get_or s (a + 27) 0)) ≡ cond c (range 0 1) (range (get_or t (b + 26) 0) (get_or t (b + 27) 0))
  same_directions true g = refl
  same_directions false g = λ i. range (g 26 (omega arith) i) (g 27 (omega arith) i)

  pub same_entry : entry_at v s a ≡ entry_at v t b
  same_entry =
      let long = size_least v in
      let p0 = same_number4 0 a b (omega arith) (omega arith) (omega arith) in
      let p1 = same_number4 4 (a + 4) (b + 4) (omega arith) refl refl in
      let p2 = same_number4 8 (a + 8) (b + 8) (omega arith) refl refl in
      let p3 = same_number4 12 (a + 12) (b + 12) (omega arith) refl refl in
      let p4 = same_number2 16 (a + 16) (b + 16) (omega arith) refl refl in
      let p5 = same_number2 18 (a + 18) (b + 18) (omega arith) refl refl in
      let p6 = same_number2 20 (a + 20) (b + 20) (omega arith) refl refl in
      let p7 = same_number2 22 (a + 22) (b + 22) (omega arith) refl refl in
      let p8 = f 24 (omega arith) in
      let p9 = f 25 (omega arith) in
      let p10 : directions_at v s a ≡ directions_at v t b = same_directions (eqb v 1) f in
      let p11 = same_number2 (record_size v - 2) (a + (record_size v - 2)) (b + (record_size v - 2)) (omega arith) refl refl in
      λ i. record {
        local_low = p0 i;
        local_high = p1 i;
        remote_low = p2 i;
        remote_high = p3 i;
        local_port_low = p4 i;
        local_port_high = p5 i;
        remote_port_low = p6 i;
        remote_port_high = p7 i;
        protocol_low = p8 i;
        protocol_high = p9 i;
        direction_low = (p10 i).low;
        direction_high = (p10 i).high;
        actions = p11 i;
      }

-- ---- n entries from number i on, of any version

length_as : (v : ℕ) (s : List ℕ) (i n : ℕ) → length (entries_as v s i n) ≡ n
length_as v s i zero = refl
length_as v s i (suc n) = ap suc (length_as v s (i + 1) n)

-- the k-th of them
at_as : (v : ℕ) (s : List ℕ) (i n k : ℕ) (d : Entry) → k < n → get_or (entries_as v s i n) k d ≡ entry_at v s (file_size v (i + k))
at_as v s i zero k d l = absurd (none_below k l)
  where
    none_below : (k : ℕ) → k < 0 → ⊥
    none_below k l = omega arith
at_as v s i (suc n) zero d l = ap (λ (j : ℕ). entry_at v s (file_size v j)) (sym (add-zero i))
at_as v s i (suc n) (suc k) d l =
    at_as v s (i + 1) n k d (omega arith) ∙ ap (λ (j : ℕ). entry_at v s (file_size v j)) (onward i k)
  where
    onward : (i k : ℕ) → i + 1 + k ≡ i + suc k
    onward i k = omega arith

-- the first n and m more
split_as : (v : ℕ) (s : List ℕ) (i n m : ℕ) → entries_as v s i (n + m) ≡ entries_as v s i n ++ entries_as v s (i + n) m
split_as v s i zero m = ap₂ (entries_as v s) (sym (add-zero i)) (zero-add m)
split_as v s i (suc n) m =
    ap (entries_as v s i) (suc-add n m)
    ∙ ap (entry_at v s (file_size v i) ∷◌) (split_as v s (i + 1) n m ∙ ap (λ (x : ℕ). entries_as v s (i + 1) n ++ entries_as v s x m) (onward i n))
  where
    onward : (i k : ℕ) → i + 1 + k ≡ i + suc k
    onward i k = omega arith

-- ---- the entries of a file

module _ (s : List ℕ) where
  pub length_entries : (i n : ℕ) → length (entries_from s i n) ≡ n
  length_entries i n = length_as (version_in s) s i n

  pub entries_at : (i n k : ℕ) (d : Entry) → k < n → get_or (entries_from s i n) k d ≡ entry_in s (i + k)
  entries_at i n k d l = at_as (version_in s) s i n k d l

  pub entries_split : (i n m : ℕ) → entries_from s i (n + m) ≡ entries_from s i n ++ entries_from s (i + n) m
  entries_split i n m = split_as (version_in s) s i n m

  -- from the first on
  pub first_at : (n k : ℕ) (d : Entry) → k < n → get_or (entries_from s 0 n) k d ≡ entry_in s k
  first_at n k d l = entries_at 0 n k d l ∙ ap (entry_in s) (zero-add k)

  pub first_split : (n m : ℕ) → entries_from s 0 (n + m) ≡ entries_from s 0 n ++ entries_from s n m
  first_split n m = entries_split 0 n m ∙ ap (λ (k : ℕ). entries_from s 0 n ++ entries_from s k m) (zero-add n)
