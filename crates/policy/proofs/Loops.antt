-- What a loop over the fields shows of rows and boxes: it goes on while every field passes, and the first that fails ends it.
-- Assumes nothing.
use Prim.Native.Nat.{ℕ, ◌<◌, ◌≤◌, ◌+◌, ◌*◌, min, max}
use native.Mathlib.Omega.{arith}
use mathlib.Core.Path.{◌≡◌, refl, sym, ◌∙◌, ap, ap₂}
use mathlib.Core.Bool.{Bool, true, false, ◌&&◌}
use mathlib.Core.List.{List}
use lib.Dec.{leb, ltb, eqb}
use lib.ListN.{length, get_or}
use borrow.Author.Tests.{lt-leb, le-leb, ltb-true, ltb-false}
use Rattle.policy.specs.Row.{precedes}
use Rattle.policy.specs.Box.{Range, within, common, inside, proper, meet}
use Rattle.policy.specs.Header.{arity}
use Rattle.policy.specs.Sides.{row_of, field, box_of}
use Rattle.policy.specs.steps.Rows.{numbers_in}
use Rattle.policy.proofs.Every.{every, Passed, every_passed, one_fails, row_ext, inside_every, proper_every, meet_fields, first_decides, none_decides}

-- one field more has passed
pub passed_more : (t : ℕ → Bool) (f : ℕ) → Passed t f → t f ≡ true → Passed t (f + 1)
passed_more t f p e j l = go (ltb j f) refl
  where
    last : (j : ℕ) → f ≤ j → j < f + 1 → j ≡ f
    last j m l = omega arith

    go : (b : Bool) → ltb j f ≡ b → t j ≡ true
    go true q = p j (ltb-true j f q)
    go false q = ap t (last j (ltb-false j f q) l) ∙ e

-- the whole row, where all of its fields have passed
pub all_passed : (t : ℕ → Bool) (k f : ℕ) → k ≤ f → Passed t f → true ≡ every k t
all_passed t k f l p = every_passed k t λ j m. p j (wide j k f m l)
  where
    wide : (j k f : ℕ) → j < k → k ≤ f → j < f
    wide j k f m l = omega arith

-- the row at a place meets b in a field
abbrev pub meets_at : List ℕ → ℕ → List ℕ → ℕ → Bool
meets_at s at b j = leb (common (field b 0 j) (field s at j)).low (common (field b 0 j) (field s at j)).high

pub meets_is : (s : List ℕ) (at : ℕ) (b : List ℕ) → every arity (meets_at s at b) ≡ proper arity (meet arity (box_of b 0) (box_of s at))
unfolding box_of
meets_is s at b = proper_every arity (λ j. common (field b 0 j) (field s at j)) ∙ ap (proper arity) (meet_fields arity (field b 0) (field s at))

-- a box is not crossed in a field
abbrev pub proper_at : List ℕ → ℕ → Bool
proper_at b j = leb (field b 0 j).low (field b 0 j).high

pub proper_is : (b : List ℕ) → every arity (proper_at b) ≡ proper arity (box_of b 0)
unfolding box_of
proper_is b = proper_every arity (field b 0)

-- a number lies in a box, and two numbers agree, in a field
abbrev pub inside_at : List ℕ → List ℕ → ℕ → Bool
inside_at b x j = within (field b 0 j) (get_or x j 0)

pub inside_is : (b x : List ℕ) → every arity (inside_at b x) ≡ inside arity (box_of b 0) (numbers_in x)
unfolding box_of
inside_is b x = inside_every arity (field b 0) (λ j. get_or x j 0)

abbrev pub agree_at : List ℕ → List ℕ → ℕ → Bool
agree_at x y j = eqb (get_or x j 0) (get_or y j 0)

-- ---- the loops: a field stops one, and it ends where all have passed

module _ (s : List ℕ) (at : ℕ) (b : List ℕ) (f : ℕ) where
  module _ (bl bh sl sh l h : ℕ) (p : bl ≡ (field b 0 f).low) (q : bh ≡ (field b 0 f).high) (u : sl ≡ (field s at f).low) (v : sh ≡ (field s at f).high) (m : l ≡ max bl sl) (n : h ≡ min bh sh) where
    meets_here : leb l h ≡ meets_at s at b f
    meets_here = ap₂ leb (m ∙ ap₂ max p u) (n ∙ ap₂ min q v)

    pub part_crossed : f < arity → h < l → false ≡ proper arity (meet arity (box_of b 0) (box_of s at))
    part_crossed i k = one_fails arity f (meets_at s at b) i (sym meets_here ∙ lt-leb l h k) ∙ meets_is s at b

  pub part_proper : arity ≤ f → Passed (meets_at s at b) f → true ≡ proper arity (meet arity (box_of b 0) (box_of s at))
  part_proper l c = all_passed (meets_at s at b) arity f l c ∙ meets_is s at b

module _ (b x : List ℕ) (f : ℕ) where
  module _ (l : ℕ) (p : l ≡ (field b 0 f).low) where
    pub number_below : f < arity → get_or x f 0 < l → false ≡ inside arity (box_of b 0) (numbers_in x)
    number_below m n = one_fails arity f (inside_at b x) m (ap (◌&& leb (get_or x f 0) (field b 0 f).high) (ap (λ (k : ℕ). leb k (get_or x f 0)) (sym p) ∙ lt-leb l (get_or x f 0) n)) ∙ inside_is b x

    module _ (h : ℕ) (q : h ≡ (field b 0 f).high) where
      here : (t : Bool) → l ≤ get_or x f 0 → leb (get_or x f 0) h ≡ t → inside_at b x f ≡ t
      here t n e = ap₂ ◌&&◌ (ap (λ (k : ℕ). leb k (get_or x f 0)) (sym p) ∙ le-leb l (get_or x f 0) n) (ap (leb (get_or x f 0)) (sym q) ∙ e)

      pub number_above : f < arity → l ≤ get_or x f 0 → h < get_or x f 0 → false ≡ inside arity (box_of b 0) (numbers_in x)
      number_above m n k = one_fails arity f (inside_at b x) m (here false n (lt-leb (get_or x f 0) h k)) ∙ inside_is b x

  pub numbers_lie : arity ≤ f → Passed (inside_at b x) f → true ≡ inside arity (box_of b 0) (numbers_in x)
  numbers_lie l c = all_passed (inside_at b x) arity f l c ∙ inside_is b x

module _ (x y : List ℕ) (f : ℕ) where
  pub first_differs : f < arity → (get_or x f 0 ≡ get_or y f 0 → ⊥) → Passed (agree_at x y) f → ltb (get_or x f 0) (get_or y f 0) ≡ precedes arity (numbers_in x) (numbers_in y)
  first_differs m n c = first_decides arity f (λ j. get_or x j 0) (λ j. get_or y j 0) m c n

  pub none_differs : arity ≤ f → Passed (agree_at x y) f → false ≡ precedes arity (numbers_in x) (numbers_in y)
  none_differs l c = none_decides arity (λ j. get_or x j 0) (λ j. get_or y j 0) λ j m. c j (wide j f m l)
    where
      wide : (j f : ℕ) → j < arity → arity ≤ f → j < f
      wide j f m l = omega arith

module _ (b : List ℕ) (f : ℕ) where
  module _ (l h : ℕ) (p : l ≡ (field b 0 f).low) (q : h ≡ (field b 0 f).high) where
    pub side_crossed : f < arity → h < l → false ≡ proper arity (box_of b 0)
    side_crossed m k = one_fails arity f (proper_at b) m (ap₂ leb (sym p) (sym q) ∙ lt-leb l h k) ∙ proper_is b

  pub sides_proper : arity ≤ f → Passed (proper_at b) f → true ≡ proper arity (box_of b 0)
  sides_proper l c = all_passed (proper_at b) arity f l c ∙ proper_is b

-- ---- boxes that a loop fills, field by field

-- the first fields are as g says
abbrev pub Filled : List ℕ → (ℕ → Range) → ℕ → Type 0
Filled r g f = (length r ≡ 2 * arity) × ((j : ℕ) → j < f → field r 0 j ≡ g j)

pub filled_box : (r : List ℕ) (g : ℕ → Range) (f : ℕ) → arity ≤ f → Filled r g f → box_of r 0 ≡ row_of arity g
unfolding box_of
filled_box r g f l e = row_ext arity (field r 0) g λ j m. e.1 j (wide j f m l)
  where
    wide : (j f : ℕ) → j < arity → arity ≤ f → j < f
    wide j f m l = omega arith

-- the box of a row, and a common part
pub filled_row : (r s : List ℕ) (at f : ℕ) → arity ≤ f → Filled r (field s at) f → box_of r 0 ≡ box_of s at
unfolding box_of
filled_row r s at f l e = filled_box r (field s at) f l e

pub filled_part : (r b s : List ℕ) (at f : ℕ) → arity ≤ f → Filled r (λ j. common (field b 0 j) (field s at j)) f → box_of r 0 ≡ meet arity (box_of b 0) (box_of s at)
unfolding box_of
filled_part r b s at f l e = filled_box r (λ j. common (field b 0 j) (field s at j)) f l e ∙ meet_fields arity (field b 0) (field s at)
