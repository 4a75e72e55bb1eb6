-- What the code shows of a field by number: a box with one field changed, and the search for a field to cut.
-- Assumes nothing.
use Rattle.std.specs.Option.{option_map}
use Rattle.std.proofs.Common.{◌≡◌, ℕ, zero, suc, ◌+◌, ◌*◌, ◌<◌, ◌≤◌, min, max, Bool, true, cond, leb, List, length, get_or, set, Option, Some, None, sym, refl, ap, ◌∙◌, add-zero, arith, get_or-set_other, get_or-set_same, lt-ltb, le-leb}
use Rattle.policy.specs.Row.{Row}
use Rattle.policy.specs.Box.{Range, range, within, inside}
use Rattle.policy.specs.steps.Boxes.{lows}
use Rattle.policy.specs.steps.Cut.{empty, above}
use Rattle.policy.specs.Header.{arity}
use Rattle.policy.proofs.Bool.{and_left, and_right}
use Rattle.policy.proofs.Conjunctions.{ends_are, paired}
use Rattle.policy.proofs.Box.{le_high}
use Rattle.policy.specs.Sides.{row_of, field, box_of}
use Rattle.policy.specs.steps.Rows.{sides}
use Rattle.region.specs.steps.Corner.{holds_corner}
use Rattle.region.specs.steps.Pieces.{up_to, at_field, Short, Next}
use Rattle.policy.proofs.Every.{every_passed, row_ext}
use Rattle.region.proofs.Holding.{reaches_every}

-- ---- field number f of rows

down : (f k : ℕ) → suc f < suc k → f < k
down f k l = omega arith

up : (f k : ℕ) → f < k → suc f < suc k
up f k l = omega arith

none_below : (f : ℕ) → f < 0 → ⊥
none_below f l = omega arith

-- a short field is one
pub short_field : (k f : ℕ) (b s : Row Range k) → Short k f b s → f < k
short_field zero f b s o = absurd o
short_field (suc k) zero b s o = omega arith
short_field (suc k) (suc f) b s o = up f k (short_field k f b.1 s.1 o)

short_ends : (k f : ℕ) (g h : ℕ → Range) → Short k f (row_of k g) (row_of k h) → (h f).high < (g f).high
short_ends zero f g h o = absurd o
short_ends (suc k) zero g h o = o
short_ends (suc k) (suc f) g h o = short_ends k f (λ j. g (suc j)) (λ j. h (suc j)) o

pub ends_short : (k f : ℕ) (g h : ℕ → Range) → f < k → (h f).high < (g f).high → Short k f (row_of k g) (row_of k h)
ends_short zero f g h l o = absurd (none_below f l)
ends_short (suc k) zero g h l o = o
ends_short (suc k) (suc f) g h l o = ends_short k f (λ j. g (suc j)) (λ j. h (suc j)) (down f k l) o

held_low : (k f : ℕ) (g h : ℕ → Range) → f < k → inside k (row_of k h) (lows k (row_of k g)) ≡ true → (g f).low ≤ (h f).high
held_low zero f g h l i = absurd (none_below f l)
held_low (suc k) zero g h l i = le_high (h 0) (g 0).low (and_left (within (h 0) (g 0).low) (inside k (row_of k (λ j. h (suc j))) (lows k (row_of k (λ j. g (suc j))))) i)
held_low (suc k) (suc f) g h l i =
    held_low k f (λ j. g (suc j)) (λ j. h (suc j)) (down f k l) (and_right (within (h 0) (g 0).low) (inside k (row_of k (λ j. h (suc j))) (lows k (row_of k (λ j. g (suc j))))) i)

-- a row with one field changed
changed : (F : Range → Range → Range) (k f : ℕ) (g h r : ℕ → Range) → f < k → r f ≡ F (g f) (h f) → ((j : ℕ) → (j ≡ f → ⊥) → r j ≡ g j) → row_of k r ≡ at_field F k f (row_of k g) (row_of k h)
changed F zero f g h r l e o = refl
changed F (suc k) zero g h r l e o = paired e (row_ext k (λ j. r (suc j)) (λ j. g (suc j)) λ j m. o (suc j) (positive j))
  where
    positive : (j : ℕ) → suc j ≡ 0 → ⊥
    positive j e = omega arith
changed F (suc k) (suc f) g h r l e o =
    paired (o 0 (other f)) (changed F k f (λ j. g (suc j)) (λ j. h (suc j)) (λ j. r (suc j)) (down f k l) e λ j n. o (suc j) (λ p. n (less j f p)))
  where
    other : (f : ℕ) → 0 ≡ suc f → ⊥
    other f e = omega arith

    less : (j f : ℕ) → suc j ≡ suc f → j ≡ f
    less j f e = omega arith

-- ---- the parts of a box

-- the end of s lies in b
pub end_in : (b s : List ℕ) (f : ℕ) → Short arity f (box_of b 0) (box_of s 0) → holds_corner (box_of s 0) (box_of b 0) ≡ true → ((field b 0 f).low ≤ (field s 0 f).high) × ((field s 0 f).high < (field b 0 f).high)
unfolding box_of
end_in b s f o c = (held_low arity f (field b 0) (field s 0) (short_field arity f (box_of b 0) (box_of s 0) o) c, short_ends arity f (field b 0) (field s 0) o)

end_short : (b s : List ℕ) (f : ℕ) → Short arity f (box_of b 0) (box_of s 0) → (field s 0 f).high < (field b 0 f).high
unfolding box_of
end_short b s f o = short_ends arity f (field b 0) (field s 0) o

pub end_below : (b s : List ℕ) (f x y : ℕ) → Short arity f (box_of b 0) (box_of s 0) → x ≡ (field s 0 f).high → y ≡ (field b 0 f).high → x < y
end_below b s f x y o p q = less x y (field s 0 f).high (field b 0 f).high p q (end_short b s f o)
  where
    less : (x y m n : ℕ) → x ≡ m → y ≡ n → m < n → x < y
    less x y m n p q l = omega arith

-- a side that is stored: the field has it, and the others stay
module _ (b : List ℕ) (f x : ℕ) (l : f < arity) (n : length b ≡ sides) where
  low_here : field (set b (2 * f) x) 0 f ≡ range x (field b 0 f).high
  low_here = ends_are (ap (λ (k : ℕ). get_or (set b (2 * f) x) k 0) (add-zero (2 * f)) ∙ get_or-set_same b (2 * f) x 0 (place f (length b) l n)) (get_or-set_other b (2 * f) (2 * f + 1 + 0) x 0 (odd f))
    where
      place : (f n : ℕ) → f < arity → n ≡ sides → 2 * f < n
      place f n l e = omega arith

      odd : (f : ℕ) → 2 * f + 1 + 0 ≡ 2 * f → ⊥
      odd f e = omega arith

  low_other : (j : ℕ) → (j ≡ f → ⊥) → field (set b (2 * f) x) 0 j ≡ field b 0 j
  low_other j d = ends_are (get_or-set_other b (2 * f) (2 * j + 0) x 0 (λ e. d (even j e))) (get_or-set_other b (2 * f) (2 * j + 1 + 0) x 0 (off j))
    where
      even : (j : ℕ) → 2 * j + 0 ≡ 2 * f → j ≡ f
      even j e = omega arith

      off : (j : ℕ) → 2 * j + 1 + 0 ≡ 2 * f → ⊥
      off j e = omega arith

  high_here : field (set b (2 * f + 1) x) 0 f ≡ range (field b 0 f).low x
  high_here =
      ends_are (get_or-set_other b (2 * f + 1) (2 * f + 0) x 0 (even f))
      (ap (λ (k : ℕ). get_or (set b (2 * f + 1) x) k 0) (add-zero (2 * f + 1)) ∙ get_or-set_same b (2 * f + 1) x 0 (place f (length b) l n))
    where
      place : (f n : ℕ) → f < arity → n ≡ sides → 2 * f + 1 < n
      place f n l e = omega arith

      even : (f : ℕ) → 2 * f + 0 ≡ 2 * f + 1 → ⊥
      even f e = omega arith

  high_other : (j : ℕ) → (j ≡ f → ⊥) → field (set b (2 * f + 1) x) 0 j ≡ field b 0 j
  high_other j d = ends_are (get_or-set_other b (2 * f + 1) (2 * j + 0) x 0 (off j)) (get_or-set_other b (2 * f + 1) (2 * j + 1 + 0) x 0 (λ e. d (odd j e)))
    where
      off : (j : ℕ) → 2 * j + 0 ≡ 2 * f + 1 → ⊥
      off j e = omega arith

      odd : (j : ℕ) → 2 * j + 1 + 0 ≡ 2 * f + 1 → j ≡ f
      odd j e = omega arith

  -- as a box
  pub low_put : box_of (set b (2 * f) x) 0 ≡ at_field (λ r s. range x r.high) arity f (box_of b 0) (box_of b 0)
  unfolding box_of
  low_put = changed (λ r s. range x r.high) arity f (field b 0) (field b 0) (field (set b (2 * f) x) 0) l low_here low_other

  pub high_put : box_of (set b (2 * f + 1) x) 0 ≡ at_field (λ r s. range r.low x) arity f (box_of b 0) (box_of b 0)
  unfolding box_of
  high_put = changed (λ r s. range r.low x) arity f (field b 0) (field b 0) (field (set b (2 * f + 1) x) 0) l high_here high_other

module _ (b s : List ℕ) (f x : ℕ) (n : length b ≡ sides) (o : Short arity f (box_of b 0) (box_of s 0)) where
  l : f < arity
  l = short_field arity f (box_of b 0) (box_of s 0) o

  raised : holds_corner (box_of s 0) (box_of b 0) ≡ true → x ≡ (field s 0 f).high → box_of (set b (2 * f) (x + 1)) 0 ≡ at_field above arity f (box_of b 0) (box_of s 0)
  unfolding box_of
  raised c e = changed above arity f (field b 0) (field s 0) (field (set b (2 * f) (x + 1)) 0) l here (low_other b f (x + 1) l n)
    where
      here : field (set b (2 * f) (x + 1)) 0 f ≡ above (field b 0 f) (field s 0 f)
      here =
          low_here b f (x + 1) l n
          ∙ ends_are (higher (field b 0 f).low x (field s 0 f).high e (end_in b s f o c).0) refl
          ∙ sym (ap (λ (t : Bool). cond t (range (max (field b 0 f).low ((field s 0 f).high + 1)) (field b 0 f).high) empty) (lt-ltb (field s 0 f).high (field b 0 f).high (end_in b s f o c).1))
        where
          higher : (m x n : ℕ) → x ≡ n → m ≤ n → x + 1 ≡ max m (n + 1)
          higher m x n e l = omega arith

  pub raised_low : (y : ℕ) → holds_corner (box_of s 0) (box_of b 0) ≡ true → x ≡ (field s 0 f).high → y ≡ x + 1 → box_of (set b (2 * f) y) 0 ≡ at_field above arity f (box_of b 0) (box_of s 0)
  raised_low y c e p = ap (λ (y : ℕ). box_of (set b (2 * f) y) 0) p ∙ raised c e

  pub lowered_high : x ≡ (field s 0 f).high → box_of (set b (2 * f + 1) x) 0 ≡ at_field up_to arity f (box_of b 0) (box_of s 0)
  unfolding box_of
  lowered_high e = changed up_to arity f (field b 0) (field s 0) (field (set b (2 * f + 1) x) 0) l here (high_other b f x l n)
    where
      here : field (set b (2 * f + 1) x) 0 f ≡ up_to (field b 0 f) (field s 0 f)
      here = high_here b f x l n ∙ ends_are refl (lower (field b 0 f).high x (field s 0 f).high e (end_short b s f o))
        where
          lower : (m x n : ℕ) → x ≡ n → n < m → x ≡ min m n
          lower m x n e l = omega arith

-- ---- the search for a field to cut, from the last down

-- a field in which s ends before b; or it does in none from f on
abbrev pub NextFrom : List ℕ → List ℕ → ℕ → Option (ℕ × ℕ) → Type 0
NextFrom b s f (Some c) = (c.0 < arity) × ((field s 0 c.0).high < (field b 0 c.0).high)
NextFrom b s f None = (j : ℕ) → f ≤ j → j < arity → (field b 0 j).high ≤ (field s 0 j).high

pub next_is : (b s : List ℕ) (f : ℕ) (r : Option (ℕ × ℕ)) → f ≤ 0 → NextFrom b s f r → Next (box_of b 0) (box_of s 0) (option_map (λ c. c.0) r)
unfolding box_of
next_is b s f (Some c) l p = (p.0, ends_short arity c.0 (field b 0) (field s 0) p.0 p.1)
next_is b s f None l p =
    sym (every_passed arity (λ j. leb (field b 0 j).high (field s 0 j).high) (λ j m. le-leb (field b 0 j).high (field s 0 j).high (p j (omega arith) m)) ∙ reaches_every arity (field s 0) (field b 0))
