-- Entries by number: what one of them holds is not missed, and a row's number is its place.
-- Assumes nothing.
use Rattle.std.proofs.Common.{◌≡◌, ℕ, zero, suc, ◌+◌, ◌-◌, ◌*◌, ◌/◌, ◌<◌, ◌≤◌, Bool, true, false, not, ◌&&◌, List, [], ◌∷◌, ◌++◌, length, sym, refl, ap, ◌∙◌, ap₂, suc-add, zero-add, arith, length-append}
use mathlib.Core.Bool.{and-false}
use Rattle.policy.specs.declared.header.Header.{Header}
use Rattle.policy.specs.declared.entry.Entry.{Entry}
use Rattle.policy.specs.Header.{Box, lies}
use Rattle.policy.specs.Entry.{selector, matches}
use Rattle.policy.specs.Policy.{missed}
use Rattle.policy.proofs.Policy.{missed_cons}
use Rattle.policy.proofs.Slices.{length_rows}
use Rattle.policy.specs.Sides.{box_of}
use Rattle.policy.specs.steps.Rows.{row_size, row_at, rows_from, rows_in}
use Rattle.region.specs.steps.Corner.{selector_in}

none_below : (i : ℕ) → i < 0 → ⊥
none_below i l = omega arith

down : (i n : ℕ) → suc i < suc n → i < n
down i n l = omega arith

-- the first entry, and a later one
pub first_in : (e : Entry) (es : List Entry) → selector_in (e ∷ es) 0 ≡ selector e
unfolding selector_in
first_in e es = refl

pub later_in : (e : Entry) (es : List Entry) (i : ℕ) → selector_in (e ∷ es) (suc i) ≡ selector_in es i
unfolding selector_in
later_in e es i = refl

-- an entry matches the headers of its selector
pub catches : (es : List Entry) (i : ℕ) → i < length es → (h : Header) → lies (selector_in es i) h ≡ true → missed es h ≡ false
unfolding selector_in
catches [] i l h p = absurd (none_below i l)
catches (e ∷ es) zero l h p = missed_cons e es h ∙ ap (λ (t : Bool). not t && missed es h) p
catches (e ∷ es) (suc i) l h p = missed_cons e es h ∙ ap (not (matches e h) &&◌) (catches es i (down i (length es) l) h p) ∙ and-false (not (matches e h))

-- in two lists
pub in_left : (es ds : List Entry) (i : ℕ) → i < length es → selector_in (es ++ ds) i ≡ selector_in es i
unfolding selector_in
in_left [] ds i l = absurd (none_below i l)
in_left (e ∷ es) ds zero l = refl
in_left (e ∷ es) ds (suc i) l = in_left es ds i (down i (length es) l)

pub in_right : (es ds : List Entry) (i : ℕ) → selector_in (es ++ ds) (length es + i) ≡ selector_in ds i
in_right [] ds i = ap (selector_in ds) (zero-add i)
in_right (e ∷ es) ds i = ap (selector_in (e ∷ es ++ ds)) (suc-add (length es) i) ∙ later_in e (es ++ ds) (length es + i) ∙ in_right es ds i

-- the i-th row of a slice
pub row_in : (s : List ℕ) (i : ℕ) → i < length s / row_size → selector_in (rows_in s) i ≡ box_of s (row_size * i)
row_in s i l = go (length s / row_size) 0 i l ∙ ap (box_of s) (zero-add (row_size * i))
  where
    onward : (at i : ℕ) → at + row_size + row_size * i ≡ at + row_size * suc i
    onward at i = omega arith

    here : (at : ℕ) → at ≡ at + row_size * 0
    here at = omega arith

    go : (n at i : ℕ) → i < n → selector_in (rows_from s at n) i ≡ box_of s (at + row_size * i)
    go zero at i l = absurd (none_below i l)
    go (suc n) at zero l = first_in (row_at s at) (rows_from s (at + row_size) n) ∙ ap (box_of s) (here at)
    go (suc n) at (suc i) l = later_in (row_at s at) (rows_from s (at + row_size) n) i ∙ go n (at + row_size) i (down i n l) ∙ ap (box_of s) (onward at i)

-- and of two
pub length_two : (a b : List ℕ) → length (rows_in a ++ rows_in b) ≡ length a / row_size + length b / row_size
length_two a b = length-append (rows_in a) (rows_in b) ∙ ap₂ ◌+◌ (length_rows a 0 (length a / row_size)) (length_rows b 0 (length b / row_size))

module _ (a b : List ℕ) (i : ℕ) (r : Box) where
  pub row_first : i < length a / row_size → r ≡ box_of a (row_size * i) → r ≡ selector_in (rows_in a ++ rows_in b) i
  row_first l e = e ∙ sym (in_left (rows_in a) (rows_in b) i (there (length (rows_in a)) (length_rows a 0 (length a / row_size))) ∙ row_in a i l)
    where
      there : (n : ℕ) → n ≡ length a / row_size → i < n
      there n e = omega arith

  pub row_second : length a / row_size ≤ i → i < length (rows_in a ++ rows_in b) → r ≡ box_of b (row_size * (i - length a / row_size)) → r ≡ selector_in (rows_in a ++ rows_in b) i
  row_second m l e =
      e
      ∙ sym (row_in b (i - length a / row_size) (less i (length a / row_size) (length b / row_size) (length (rows_in a ++ rows_in b)) m l (length_two a b)))
      ∙ sym (ap (selector_in (rows_in a ++ rows_in b)) (back i (length a / row_size) (length (rows_in a)) m (length_rows a 0 (length a / row_size))) ∙ in_right (rows_in a) (rows_in b) (i - length a / row_size))
    where
      less : (i m n k : ℕ) → m ≤ i → i < k → k ≡ m + n → i - m < n
      less i m n k p q r = omega arith

      back : (i m n : ℕ) → m ≤ i → n ≡ m → i ≡ n + (i - m)
      back i m n p e = omega arith
