-- Rows beside the entries of an array: the first n rows are the first n entries. A row is put where its entry is put.
-- Assumes nothing.
use Prim.Native.Nat.{ℕ, ◌+◌, ◌*◌, ◌-◌, ◌<◌, ◌≤◌}
use native.Mathlib.Omega.{arith}
use native.Mathlib.Nat.{zero-add, add-zero}
use native.Mathlib.Numerals.{add-one}
use mathlib.Core.Path.{◌≡◌, refl, sym, ◌∙◌, ap, ap₂, subst}
use mathlib.Core.List.{List, [], ◌∷◌, ◌++◌, append_assoc}
use lib.ListN.{length, take, drop, get_or, set, length-append, length-drop, take-append-drop}
use lib.Seq.{length-take-le, take_all, take_at, drop_at, take-take, get_or-take, take-suc-set, take-set-lt, set_at, set-get_or, paste, slice}
use Rattle.policy.specs.declared.entry.Entry.{Entry}
use Rattle.policy.specs.Sides.{box_of}
use Rattle.policy.specs.steps.Rows.{row_size, row_at, rows_from, rows_in, numbers_of}
use Rattle.policy.proofs.Numbers.{rows_after}
use Rattle.policy.proofs.Slices.{length_rows, rows_at, rows_split, rows_take}
use Rattle.region.proofs.Judging.{firsts_in}

-- ---- the rows of a part, as it is lent

module _ (s : List ℕ) where
  pub lent_front : (n : ℕ) → row_size * n ≤ length s → rows_in (take (row_size * n) s) ≡ rows_from s 0 n
  lent_front n l = firsts_in s n (row_size * n) (omega arith) (omega arith)

  rows_drop : (a n : ℕ) → a ≤ length s → rows_from (drop a s) 0 n ≡ rows_from s a n
  rows_drop a n l =
      sym (ap₂ (λ (t : List ℕ) (k : ℕ). rows_from t k n) (sym (take-append-drop a s)) (sym (add-zero a) ∙ ap (◌+ 0) (sym (length-take-le a s l)))
      ∙ rows_after (take a s) (drop a s) 0 n)

  pub lent_back : (i n : ℕ) → i ≤ n → row_size * n ≤ length s → rows_in (take (row_size * n - row_size * i) (drop (row_size * i) s)) ≡ rows_from s (row_size * i) (n - i)
  lent_back i n u l =
      firsts_in (drop (row_size * i) s) (n - i) (row_size * n - row_size * i) (omega (arith, length-drop (row_size * i) s)) (omega arith)
      ∙ rows_drop (row_size * i) (n - i) (omega arith)

-- ---- a row is put in a place

row_is : (e : Entry) (t : List ℕ) → row_at (numbers_of e ++ t) 0 ≡ e
unfolding box_of
row_is e t = refl

module _ (s : List ℕ) (i : ℕ) (e : Entry) (r : List ℕ) (l : row_size * (i + 1) ≤ length s) (q : r ≡ paste s (row_size * i) (numbers_of e) row_size) where
  abbrev front : List ℕ
  front = take (row_size * i) s

  abbrev rest : List ℕ
  rest = drop (row_size * i + row_size) s

  whole : r ≡ front ++ (numbers_of e ++ rest)
  whole = q ∙ append_assoc (take (row_size * i) s) (numbers_of e) (drop (row_size * i + row_size) s)

  size_front : length front ≡ row_size * i
  size_front = length-take-le (row_size * i) s (omega arith)

  put_there : rows_from r (row_size * i) 1 ≡ e ∷ []
  put_there =
      ap₂ (λ (t : List ℕ) (k : ℕ). rows_from t k 1) whole (sym (add-zero (row_size * i)) ∙ ap (◌+ 0) (sym size_front))
      ∙ rows_after front (numbers_of e ++ rest) 0 1
      ∙ ap (◌∷ []) (row_is e rest)

  put_earlier : (n : ℕ) → n ≤ i → rows_from r 0 n ≡ rows_from s 0 n
  put_earlier n m =
      sym (rows_take r (row_size * i) 0 n (omega arith))
      ∙ ap (λ (t : List ℕ). rows_from t 0 n) (ap (take (row_size * i)) whole ∙ take_at front (numbers_of e ++ rest) (row_size * i) size_front)
      ∙ rows_take s (row_size * i) 0 n (omega arith)

  put_later : (n : ℕ) → rows_from r (row_size * (i + 1)) n ≡ rows_from s (row_size * (i + 1)) n
  put_later n =
      ap₂ (λ (t : List ℕ) (k : ℕ). rows_from t k n) q (up ∙ sym (add-zero (length head)))
      ∙ rows_after head rest 0 n
      ∙ rows_drop s (row_size * i + row_size) n (omega arith)
      ∙ ap (λ (k : ℕ). rows_from s k n) (sym (next i))
    where
      head : List ℕ
      head = take (row_size * i) s ++ numbers_of e

      next : (i : ℕ) → row_size * (i + 1) ≡ row_size * i + row_size
      next i = omega arith

      up : row_size * (i + 1) ≡ length head
      up = next i ∙ sym (length-append (take (row_size * i) s) (numbers_of e) ∙ ap (◌+ row_size) (length-take-le (row_size * i) s (omega arith)))

-- ---- beside an array

abbrev pub Beside : List ℕ → List Entry → ℕ → Type 0
Beside s es n = rows_from s 0 n ≡ take n es

-- the rows before a place, the one there, and those behind it
parts : (s : List ℕ) (i n : ℕ) → i < n → rows_from s 0 n ≡ rows_from s 0 i ++ (rows_from s (row_size * i) 1 ++ rows_from s (row_size * (i + 1)) (n - (i + 1)))
parts s i n l =
    ap (rows_from s 0) (two i n l)
    ∙ rows_split s 0 i (1 + (n - (i + 1)))
    ∙ ap (λ (k : ℕ). rows_from s 0 i ++ rows_from s k (1 + (n - (i + 1)))) (zero-add (row_size * i))
    ∙ ap (rows_from s 0 i ++◌) (rows_split s (row_size * i) 1 (n - (i + 1)) ∙ ap (λ (k : ℕ). rows_from s (row_size * i) 1 ++ rows_from s k (n - (i + 1))) (next i))
  where
    two : (i n : ℕ) → i < n → n ≡ i + (1 + (n - (i + 1)))
    two i n l = omega arith

    next : (i : ℕ) → row_size * i + row_size * 1 ≡ row_size * (i + 1)
    next i = omega arith

module _ (s : List ℕ) (es : List Entry) (n : ℕ) (b : Beside s es n) where
  pub beside_front : (k : ℕ) → k ≤ n → rows_from s 0 k ≡ take k es
  beside_front k l =
      sym (ap (take k) (ap (rows_from s 0) (two k n l) ∙ rows_split s 0 k (n - k)) ∙ take_at (rows_from s 0 k) (rows_from s (0 + row_size * k) (n - k)) k (length_rows s 0 k))
      ∙ ap (take k) b
      ∙ take-take k n es l
    where
      two : (k n : ℕ) → k ≤ n → n ≡ k + (n - k)
      two k n l = omega arith

  pub beside_at : (k : ℕ) (d : Entry) → k < n → row_at s (row_size * k) ≡ get_or es k d
  beside_at k d l =
      ap (row_at s) (sym (zero-add (row_size * k)))
      ∙ sym (rows_at s 0 n k d l)
      ∙ ap (λ (p : List Entry). get_or p k d) b
      ∙ get_or-take n es k d l

  pub beside_back : (k : ℕ) → k ≤ n → rows_from s (row_size * k) (n - k) ≡ slice k n es
  beside_back k l =
      ap (λ (i : ℕ). rows_from s i (n - k)) (sym (zero-add (row_size * k)))
      ∙ sym (ap (drop k) (ap (rows_from s 0) (two k n l) ∙ rows_split s 0 k (n - k)) ∙ drop_at (rows_from s 0 k) (rows_from s (0 + row_size * k) (n - k)) k (length_rows s 0 k))
      ∙ ap (drop k) b
    where
      two : (k n : ℕ) → k ≤ n → n ≡ k + (n - k)
      two k n l = omega arith

  module _ (i : ℕ) (e : Entry) (r : List ℕ) (l : row_size * (i + 1) ≤ length s) (q : r ≡ paste s (row_size * i) (numbers_of e) row_size) where
    -- behind the first n
    pub beside_next : n ≡ i → n < length es → Beside r (set es i e) (i + 1)
    beside_next x m =
        rows_split r 0 i 1
        ∙ ap₂ ◌++◌ (put_earlier s i e r l q i (omega arith) ∙ ap (rows_from s 0) (sym x) ∙ b ∙ ap (λ (k : ℕ). take k es) x) (ap (λ (k : ℕ). rows_from r k 1) (zero-add (row_size * i)) ∙ put_there s i e r l q)
        ∙ sym (ap (λ (k : ℕ). take k (set es i e)) (add-one i) ∙ take-suc-set es i e (omega arith))

    -- or over one of them
    pub beside_set : i < n → Beside r (set es i e) n
    beside_set m =
        parts r i n m
        ∙ ap₂ ◌++◌ (put_earlier s i e r l q i (omega arith)) (ap₂ ◌++◌ (put_there s i e r l q) (put_later s i e r l q (n - (i + 1))))
        ∙ sym (ap (λ (p : List Entry). set p i e) (sym b ∙ parts s i n m)
        ∙ set_at (rows_from s 0 i) (row_at s (row_size * i)) (rows_from s (row_size * (i + 1)) (n - (i + 1))) e i (length_rows s 0 i))
        ∙ sym (take-set-lt n es i e m)

-- ---- the rows of an array, put one after the other

pub beside_more : (s r : List ℕ) (es : List Entry) (i : ℕ) (d : Entry) → Beside s es i → i < length es → row_size * (i + 1) ≤ length s → r ≡ paste s (row_size * i) (numbers_of (get_or es i d)) row_size
    → Beside r es (i + 1)
beside_more s r es i d b m l q = beside_next s es i b i (get_or es i d) r l q refl m ∙ ap (take (i + 1)) (set-get_or es i d)

pub beside_all : (s : List ℕ) (es : List Entry) (i : ℕ) → Beside s es i → i ≤ length es → length es ≤ i → rows_from s 0 (length es) ≡ es
beside_all s es i b l m =
    let e : i ≡ length es = omega arith in
    subst (Beside s es) e b ∙ take_all (length es) es (omega arith)
