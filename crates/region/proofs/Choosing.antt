-- What the code's branches show of the row that is picked.
-- Assumes nothing.
use Rattle.std.proofs.Common.{◌≡◌, ℕ, zero, suc, ◌+◌, ◌-◌, ◌*◌, ◌/◌, ◌<◌, ◌≤◌, Bool, true, ◌&&◌, leb, List, ◌++◌, length, sym, refl, ap, ◌∙◌, subst, Some, arith, length-append, leb-true}
use mathlib.Core.Bool.{and-false}
use Rattle.policy.specs.declared.entry.Entry.{Entry}
use Rattle.policy.specs.Row.{Row}
use Rattle.policy.specs.Box.{Range, within, inside}
use Rattle.policy.specs.steps.Boxes.{lows}
use Rattle.policy.specs.Header.{arity, fields, header, Box, lies}
use Rattle.policy.specs.Policy.{missed}
use Rattle.policy.proofs.Bool.{and_intro, and_left, and_right}
use Rattle.policy.proofs.Box.{within_by, low_le, le_high}
use Rattle.policy.proofs.Policy.{missed_append}
use Rattle.policy.proofs.Slices.{length_rows}
use Rattle.region.specs.declared.pick.Picked.{Picked}
use Rattle.region.specs.declared.pick.Picked.TheVariants.{Held, Free, Covered}
use Rattle.policy.specs.Sides.{box_of}
use Rattle.policy.specs.steps.Rows.{row_size, rows_from, rows_in}
use Rattle.region.specs.steps.Corner.{holds_corner, reaches, Covers, Picks, number_of, shifted, HoldsLast, Chooses}
use Rattle.region.proofs.Members.{catches, in_left, in_right, row_in}

-- ---- two lists

pub picks_left : (es ds : List Entry) (b : Box) (i : ℕ) → Picks es b (Held i) → Picks (es ++ ds) b (Held i)
picks_left es ds b i p = (more i (length es) (length ds) (length (es ++ ds)) p.0 (length-append es ds), ap (λ (s : Box). holds_corner s b) (in_left es ds i p.0) ∙ p.1)
  where
    more : (i m n k : ℕ) → i < m → k ≡ m + n → i < k
    more i m n k l e = omega arith

pub picks_right : (es ds : List Entry) (b : Box) (i : ℕ) → Picks ds b (Held i) → Picks (es ++ ds) b (Held (length es + i))
picks_right es ds b i p = (more i (length es) (length ds) (length (es ++ ds)) p.0 (length-append es ds), ap (λ (s : Box). holds_corner s b) (in_right es ds i) ∙ p.1)
  where
    more : (i m n k : ℕ) → i < n → k ≡ m + n → m + i < k
    more i m n k l e = omega arith

pub picks_free : (es ds : List Entry) (b : Box) → Picks es b Free → Picks ds b Free → Picks (es ++ ds) b Free
picks_free es ds b p q = missed_append es ds (header (lows arity b)) ∙ and_intro p q

pub covers_left : (es ds : List Entry) (b : Box) → Covers es b → Covers (es ++ ds) b
covers_left es ds b c h i = missed_append es ds h ∙ ap (◌&& missed ds h) (c h i)

pub covers_right : (es ds : List Entry) (b : Box) → Covers ds b → Covers (es ++ ds) b
covers_right es ds b c h i = missed_append es ds h ∙ ap (missed es h &&◌) (c h i) ∙ and-false (missed es h)

-- ---- a row that holds a box

-- it holds the low corner and reaches the ends
pub inside_all : (k : ℕ) (s b : Row Range k) (x : Row ℕ k) → inside k s (lows k b) ≡ true → reaches k s b ≡ true → inside k b x ≡ true → inside k s x ≡ true
inside_all zero s b x i r j = refl
inside_all (suc k) s b x i r j =
    let low = low_le s.0 b.0.low (and_left (within s.0 b.0.low) (inside k s.1 (lows k b.1)) i) in
    let high = leb-true b.0.high s.0.high (and_left (leb b.0.high s.0.high) (reaches k s.1 b.1) r) in
    let here = and_left (within b.0 x.0) (inside k b.1 x.1) j in
    and_intro (within_by s.0 x.0 (omega (arith, low, low_le b.0 x.0 here)) (omega (arith, high, le_high b.0 x.0 here)))
    (inside_all k s.1 b.1 x.1 (and_right (within s.0 b.0.low) (inside k s.1 (lows k b.1)) i) (and_right (leb b.0.high s.0.high) (reaches k s.1 b.1) r) (and_right (within b.0 x.0) (inside k b.1 x.1) j))

-- ---- the rows of a slice, from the last to the first

-- none of the rows from number i to before n holds the numbers x
abbrev pub Passed : List ℕ → ℕ → Row ℕ arity → ℕ → Type 0
Passed s n x i = missed (rows_from s (row_size * i) (n - i)) (header x) ≡ true

module _ (s : List ℕ) (b : Box) where
  abbrev count : ℕ
  count = length s / row_size

  -- the choice, read
  pub number_held : (r : ℕ) → r < count → holds_corner (box_of s (row_size * r)) b ≡ true → Picks (rows_in s) b (Held r)
  number_held r l h = (there (length (rows_in s)) r l (length_rows s 0 count), ap (λ (p : Box). holds_corner p b) (row_in s r l) ∙ h)
    where
      there : (n r : ℕ) → r < count → n ≡ count → r < n
      there n r l e = omega arith

  number_covers : (r : ℕ) → r < count → holds_corner (box_of s (row_size * r)) b ≡ true → reaches arity (box_of s (row_size * r)) b ≡ true → Covers (rows_in s) b
  number_covers r l o w h i =
      catches (rows_in s) r (number_held r l o).0 h (ap (λ (p : Box). lies p h) (row_in s r l) ∙ inside_all arity (box_of s (row_size * r)) b (fields h) o w i)

  -- the last row that holds the corner reaches the ends
  pub last_covers : (i : ℕ) → HoldsLast s count (lows arity b) (Some i) → reaches arity (box_of s (row_size * i)) b ≡ true → Covers (rows_in s) b
  last_covers i h w = number_covers i h.0 h.1.0 w

  -- a choice that is asked whether it reaches the ends
  pub choose_with_cover : (r : ℕ) (old new : Bool) → Chooses s b r old → new ≡ reaches arity (box_of s (row_size * r)) b → Chooses s b r new
  choose_with_cover r old new c e = (c.0, (c.1.0, λ t. number_covers r c.0 c.1.0 (sym e ∙ t)))

-- what one list picks, where the other has no row that holds the corner
pub picks_first : (es ds : List Entry) (b : Box) (p : Picked) → Picks es b p → missed ds (header (lows arity b)) ≡ true → Picks (es ++ ds) b p
picks_first es ds b (Held i) p m = picks_left es ds b i p
picks_first es ds b Free p m = picks_free es ds b p m
picks_first es ds b Covered p m = covers_left es ds b p

pub picks_second : (es ds : List Entry) (b : Box) (n : ℕ) (p r : Picked) → n ≡ length es → Picks ds b p → missed es (header (lows arity b)) ≡ true → r ≡ shifted n p → Picks (es ++ ds) b r
picks_second es ds b n p r e y m q = subst (Picks (es ++ ds) b) (sym (q ∙ ap (λ (n : ℕ). shifted n p) e)) (go p y)
  where
    go : (p : Picked) → Picks ds b p → Picks (es ++ ds) b (shifted (length es) p)
    go (Held i) y = picks_right es ds b i y
    go Free y = picks_free es ds b m y
    go Covered y = covers_right es ds b y

-- a number that is picked is small
pub picked_few : (es : List Entry) (b : Box) (p : Picked) → Picks es b p → number_of p ≤ length es
picked_few es b (Held i) y = few i (length es) y.0
  where
    few : (i n : ℕ) → i < n → i ≤ n
    few i n l = omega arith
picked_few es b Free y = omega arith
picked_few es b Covered y = omega arith

-- behind the rows of a slice
pub picks_behind : (a b : List ℕ) (x : Box) (i : ℕ) → i < length b / row_size → holds_corner (box_of b (row_size * i)) x ≡ true → Picks (rows_in a ++ rows_in b) x (Held (length a / row_size + i))
picks_behind a b x i l h = subst (λ (n : ℕ). Picks (rows_in a ++ rows_in b) x (Held (n + i))) (length_rows a 0 (length a / row_size)) (picks_right (rows_in a) (rows_in b) x i (number_held b x i l h))
