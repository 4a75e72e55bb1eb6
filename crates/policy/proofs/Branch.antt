-- The search of a box goes by the pieces that a selector leaves. Over any set of headers.
-- Assumes nothing.
use Rattle.std.specs.Prelude.{None, Option, Some}
use mathlib.Core.Path.{◌≡◌, refl, sym, ◌∙◌, ap, ap₂, fun_ext}
use mathlib.Core.Bool.{Bool, true, false, not, cond, ◌&&◌, ◌||◌, and-false, and-true, and-or_distrib_left}
use mathlib.Core.List.{List, [], ◌∷◌, map}
use Rattle.policy.specs.declared.header.Header.{Header}
use Rattle.policy.specs.Box.{inside, proper, meet}
use Rattle.policy.specs.steps.Boxes.{lows}
use Rattle.policy.specs.steps.Cut.{cut}
use Rattle.policy.specs.Header.{arity, fields, header, Box, lies, Headers, in_any, among}
use Rattle.policy.specs.steps.Findings.{lesser, minOver, minFrom}
use Rattle.policy.specs.Least.{least, least_in}
use Rattle.policy.proofs.Bool.{clash, is_false, and_intro, and_left, and_right}
use Rattle.policy.proofs.Box.{any, cut_is, meet_is, corner_in_lem, in_proper, none_before}
use Rattle.policy.proofs.Least.{agree, union, lesser_assoc, least_at, least_none, at_tells, over, over-from}

-- ---- extensionality

-- ---- what is found lies in the box, and has the property

pub found_lies : (hs : Headers) (b : Box) (P : Header → Bool) (h : Header) → least_in hs b P ≡ Some h → lies b h ≡ true
unfolding least_in
found_lies hs b P h e = and_left (lies b h) (P h) (at_tells hs (λ h. lies b h && P h) h e).1

pub found_has : (hs : Headers) (b : Box) (P : Header → Bool) (h : Header) → least_in hs b P ≡ Some h → P h ≡ true
unfolding least_in
found_has hs b P h e = and_right (lies b h) (P h) (at_tells hs (λ h. lies b h && P h) h e).1

-- a crossed box holds no header
pub crossed_none : (hs : Headers) (P : Header → Bool) (b : Box) → proper arity b ≡ false → least_in hs b P ≡ None
unfolding least_in
crossed_none hs P b e = least_none hs (λ h. lies b h && P h) λ g a. is_false (lies b g && P g) λ i. clash (in_proper arity b (fields g) (and_left (lies b g) (P g) i)) e

-- ---- corner

-- the low corner of a box is its least header, if it is one
pub corner : (hs : Headers) (b : Box) (P : Header → Bool) → among hs (header (lows arity b)) ≡ true → proper arity b ≡ true → P (header (lows arity b)) ≡ true
    → least_in hs b P ≡ Some (header (lows arity b))
unfolding least_in
corner hs b P a p o =
    least_at hs (λ h. lies b h && P h) (header (lows arity b)) a (and_intro (corner_in_lem arity b p) o)
    λ g a l. is_false (lies b g && P g) λ t. none_before arity b (fields g) (and_left (lies b g) (P g) t) l

-- ---- union

-- what is asked of one box, over the boxes of a list
pieces : (P : Header → Bool) (ps : List Box) (h : Header)
    → any (λ (p : Box) (h : Header). lies p h && P h) ps h ≡ (any (inside arity) ps (fields h) && P h)
pieces P [] h = refl
pieces P (p ∷ ps) h = ap ((lies p h && P h) ||◌) (pieces P ps h) ∙ table (lies p h) (any (inside arity) ps (fields h)) (P h)
  where
    table : (b c d : Bool) → (b && d || c && d) ≡ ((b || c) && d)
    table true c true = refl
    table true true false = refl
    table true false false = refl
    table false c d = refl

-- either of two properties
pub least_in-union : (hs : Headers) (x : Box) (P Q : Header → Bool) → least_in hs x (λ h. P h || Q h) ≡ lesser (least_in hs x P) (least_in hs x Q)
unfolding least_in
least_in-union hs x P Q = ap (least hs) (fun_ext λ h. spread (lies x h) (P h) (Q h)) ∙ union hs (λ h. lies x h && P h) (λ h. lies x h && Q h)
  where
    spread : (a b c : Bool) → (a && (b || c)) ≡ (a && b || a && c)
    spread true b c = refl
    spread false b c = refl

-- where Q leaves nothing below best, neither does a property that implies Q
pub implied : (hs : Headers) (x : Box) (P Q : Header → Bool) (best : Option Header) → ((h : Header) → (P h || Q h) ≡ Q h)
    → lesser (least_in hs x Q) best ≡ best → lesser (least_in hs x P) best ≡ best
implied hs x P Q best f e =
    ap (lesser (least_in hs x P)) (sym e)
    ∙ sym (lesser_assoc (least_in hs x P) (least_in hs x Q) best)
    ∙ ap (λ (r : Option Header). lesser r best) (sym (least_in-union hs x P Q) ∙ ap (least_in hs x) (fun_ext f))
    ∙ e

-- a property that is asked for, or not
pub least_in-if : (hs : Headers) (b : Box) (P : Header → Bool) (w : Bool) → least_in hs b (λ h. P h && w) ≡ cond w (least_in hs b P) None
least_in-if hs b P true = ap (least_in hs b) (fun_ext λ h. and-true (P h))
least_in-if hs b P false = unfold least_in in least_none hs (λ h. lies b h && (P h && false)) λ h a. ap (lies b h &&◌) (and-false (P h)) ∙ and-false (lies b h)

-- a search over several boxes is the least of the searches
pub least_in-over : (hs : Headers) (P : Header → Bool) (ps : List Box)
    → least hs (λ h. any (inside arity) ps (fields h) && P h) ≡ minOver (λ p. least_in hs p P) ps
unfolding least_in
least_in-over hs P ps = ap (least hs) (fun_ext λ h. sym (pieces P ps h)) ∙ over hs (λ (p : Box) (h : Header). lies p h && P h) ps

-- every header
abbrev pub always : Header → Bool
always h = true

-- a search that asks nothing more, or that is not asked
pub least_in-when : (hs : Headers) (b : Box) (w : Bool) → least_in hs b (λ h. w) ≡ cond w (least_in hs b always) None
least_in-when hs b true = refl
least_in-when hs b false = unfold least_in in least_none hs (λ h. lies b h && false) λ g a. and-false (lies b g)

-- the search of a box is the least over the set's boxes of the search of its part in each
pub over_set : (hs : Headers) (b : Box) (P : Header → Bool) → least_in hs b P ≡ minOver (λ p. least_in hs p P) (map (meet arity b) hs.boxes)
over_set hs b P = unfold least_in in agree hs (λ h. lies b h && P h) (λ h. any (inside arity) (map (meet arity b) hs.boxes) (fields h) && P h) whole ∙ least_in-over hs P (map (meet arity b) hs.boxes)
  where
    parts : (qs : List Box) (h : Header) → any (inside arity) (map (meet arity b) qs) (fields h) ≡ (lies b h && in_any qs h)
    parts [] h = sym (and-false (lies b h))
    parts (q ∷ qs) h = ap₂ ◌||◌ (meet_is arity b q (fields h)) (parts qs h) ∙ sym (and-or_distrib_left (lies b h) (lies q h) (in_any qs h))

    whole : (h : Header) → among hs h ≡ true → (lies b h && P h) ≡ (any (inside arity) (map (meet arity b) hs.boxes) (fields h) && P h)
    whole h a = sym (ap (◌&& P h) (parts hs.boxes h ∙ ap (lies b h &&◌) a ∙ and-true (lies b h)))

-- ---- branch

module _ (hs : Headers) (A B : Header → Bool) (b s : Box) where
  table : (b m t v : Bool) → (b && cond m v t) ≡ ((b && not m && t) || (b && m && v))
  table false m t v = refl
  table true true t v = refl
  table true false true v = refl
  table true false false v = refl

  split : (h : Header) → (lies b h && cond (lies s h) (A h) (B h))
      ≡ (any (λ (p : Box) (h : Header). lies p h && B h) (cut arity b s) h || (lies (meet arity b s) h && A h))
  split h =
      table (lies b h) (lies s h) (B h) (A h)
      ∙ ap₂ (λ (p q : Bool). (p && B h) || (q && A h)) (sym (cut_is arity b s (fields h))) (sym (meet_is arity b s (fields h)))
      ∙ ap (◌|| (lies (meet arity b s) h && A h)) (sym (pieces B (cut arity b s) h))

  -- what is asked is A inside s and B outside: the part of b inside s, by A; and the pieces outside s, by B
  pub branch : least_in hs b (λ h. cond (lies s h) (A h) (B h)) ≡ minFrom (least_in hs (meet arity b s) A) (λ p. least_in hs p B) (cut arity b s)
  unfolding least_in
  branch =
      ap (least hs) (fun_ext split)
      ∙ over-from hs (λ (p : Box) (h : Header). lies p h && B h) (cut arity b s) (λ h. lies (meet arity b s) h && A h)
