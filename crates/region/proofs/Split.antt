-- A box that is cut where another ends in one field: the two parts are the whole, and the part above is outside the other.
-- Assumes nothing.
use Rattle.std.proofs.Common.{◌≡◌, ℕ, zero, suc, ◌+◌, ◌<◌, ◌≤◌, min, max, Bool, true, false, cond, not, ◌&&◌, ◌||◌, ltb, leb, sym, refl, ap, ◌∙◌, ap₂, arith, ltb-false, ltb-true, le-ltb, lt-ltb, le-leb, leb-true}
use mathlib.Core.Path.{fun_ext}
use mathlib.Core.Bool.{and_assoc}
use Rattle.policy.specs.declared.header.Header.{Header}
use Rattle.policy.specs.Row.{Row}
use Rattle.policy.specs.Box.{Range, range, within, inside, proper}
use Rattle.policy.specs.steps.Boxes.{lows}
use Rattle.policy.specs.steps.Cut.{empty, above}
use Rattle.policy.specs.Header.{arity, fields, Box, lies, Headers}
use Rattle.policy.specs.steps.Findings.{lesser}
use Rattle.policy.specs.Least.{least, least_in}
use Rattle.policy.proofs.Bool.{clash, is_false, and_intro, and_left, and_right, same_truth}
use Rattle.policy.proofs.Box.{low_le, le_high, within_by, in_first, in_rest, corner_in_lem, above_is}
use Rattle.policy.proofs.Least.{union}
use Rattle.region.specs.steps.Narrowing.{Part}
use Rattle.region.specs.steps.Pieces.{up_to, at_field, Short}

-- x is past the end of field number f of s
abbrev past : (k f : ℕ) → Row Range k → Row ℕ k → Bool
past zero f s x = false
past (suc k) zero s x = ltb s.0.high x.0
past (suc k) (suc f) s x = past k f s.1 x.1

-- a number up to an end is not past it
up_to_is : (b s : Range) (x : ℕ) → within (up_to b s) x ≡ (within b x && not (ltb s.high x))
up_to_is b s x =
    same_truth (within (up_to b s) x) (within b x && not (ltb s.high x))
    (λ e.
    let l = low_le (up_to b s) x e in
    let m = le_high (up_to b s) x e in
    and_intro (within_by b x l (below_left x b.high s.high m)) (ap not (le-ltb s.high x (below_right x b.high s.high m))))
    (λ e.
    let p = and_left (within b x) (not (ltb s.high x)) e in
    let q = at_most (ltb s.high x) refl (and_right (within b x) (not (ltb s.high x)) e) in
    within_by (up_to b s) x (low_le b x p) (below_both x b.high s.high (le_high b x p) q))
  where
    below_left : (x m n : ℕ) → x ≤ min m n → x ≤ m
    below_left x m n l = omega arith

    below_right : (x m n : ℕ) → x ≤ min m n → x ≤ n
    below_right x m n l = omega arith

    below_both : (x m n : ℕ) → x ≤ m → x ≤ n → x ≤ min m n
    below_both x m n p q = omega arith

    at_most : (t : Bool) → ltb s.high x ≡ t → not t ≡ true → x ≤ s.high
    at_most true e n = clash n refl
    at_most false e n = ltb-false s.high x e

first_swap : (a b c : Bool) → (a && b && c) ≡ (a && c && b)
first_swap true true true = refl
first_swap true true false = refl
first_swap true false true = refl
first_swap true false false = refl
first_swap false b c = refl

-- the part above, and the part up to the end
pub upper_is : (k f : ℕ) (b s : Row Range k) (x : Row ℕ k) → Short k f b s → inside k (at_field above k f b s) x ≡ (inside k b x && past k f s x)
upper_is zero f b s x o = absurd o
upper_is (suc k) zero b s x o = ap (◌&& inside k b.1 x.1) (above_is b.0 s.0 x.0) ∙ first_swap (within b.0 x.0) (ltb s.0.high x.0) (inside k b.1 x.1)
upper_is (suc k) (suc f) b s x o =
    ap (within b.0 x.0 &&◌) (upper_is k f b.1 s.1 x.1 o) ∙ sym (and_assoc (within b.0 x.0) (inside k b.1 x.1) (past k f s.1 x.1))

pub lower_is : (k f : ℕ) (b s : Row Range k) (x : Row ℕ k) → Short k f b s → inside k (at_field up_to k f b s) x ≡ (inside k b x && not (past k f s x))
lower_is zero f b s x o = absurd o
lower_is (suc k) zero b s x o = ap (◌&& inside k b.1 x.1) (up_to_is b.0 s.0 x.0) ∙ first_swap (within b.0 x.0) (not (ltb s.0.high x.0)) (inside k b.1 x.1)
lower_is (suc k) (suc f) b s x o =
    ap (within b.0 x.0 &&◌) (lower_is k f b.1 s.1 x.1 o) ∙ sym (and_assoc (within b.0 x.0) (inside k b.1 x.1) (not (past k f s.1 x.1)))

-- what is past an end of s is outside s
past_out : (k f : ℕ) (s : Row Range k) (x : Row ℕ k) → past k f s x ≡ true → inside k s x ≡ false
past_out zero f s x p = clash p refl
past_out (suc k) zero s x p = is_false (inside (suc k) s x) λ i. off s.0.high x.0 (ltb-true s.0.high x.0 p) (le_high s.0 x.0 (in_first k s x i))
  where
    off : (m n : ℕ) → m < n → n ≤ m → ⊥
    off m n p q = omega arith
past_out (suc k) (suc f) s x p = is_false (inside (suc k) s x) λ i. clash (in_rest k s x i) (past_out k f s.1 x.1 p)

-- p lies outside s
abbrev pub Outside : Box → Box → Type 0
Outside p s = (x : Row ℕ arity) → inside arity p x ≡ true → inside arity s x ≡ false

module _ (f : ℕ) (b s : Box) (o : Short arity f b s) where
  pub upper_part : Part (at_field above arity f b s) b
  upper_part x i = and_left (inside arity b x) (past arity f s x) (sym (upper_is arity f b s x o) ∙ i)

  pub upper_outside : Outside (at_field above arity f b s) s
  upper_outside x i = past_out arity f s x (and_right (inside arity b x) (past arity f s x) (sym (upper_is arity f b s x o) ∙ i))

  pub lower_part : Part (at_field up_to arity f b s) b
  lower_part x i = and_left (inside arity b x) (not (past arity f s x)) (sym (lower_is arity f b s x o) ∙ i)

  -- the least header of the box is the lesser of those of the two parts
  pub split : (hs : Headers) (P : Header → Bool)
      → least_in hs b P ≡ lesser (least_in hs (at_field up_to arity f b s) P) (least_in hs (at_field above arity f b s) P)
  unfolding least_in
  split hs P =
      ap (least hs) (fun_ext λ h. parts h)
      ∙ union hs (λ h. lies (at_field up_to arity f b s) h && P h) (λ h. lies (at_field above arity f b s) h && P h)
    where
      table : (i o p : Bool) → (i && p) ≡ (i && not o && p || i && o && p)
      table false o p = refl
      table true true p = refl
      table true false true = refl
      table true false false = refl

      parts : (h : Header) → (lies b h && P h) ≡ (lies (at_field up_to arity f b s) h && P h || lies (at_field above arity f b s) h && P h)
      parts h =
          table (lies b h) (past arity f s (fields h)) (P h)
          ∙ ap₂ (λ (u v : Bool). u && P h || v && P h) (sym (lower_is arity f b s (fields h) o)) (sym (upper_is arity f b s (fields h) o))

-- the part up to the end has the same low corner
pub lower_lows : (k f : ℕ) (b s : Row Range k) → lows k (at_field up_to k f b s) ≡ lows k b
lower_lows zero f b s = refl
lower_lows (suc k) zero b s = refl
lower_lows (suc k) (suc f) b s = ap (λ (r : Row ℕ k). (b.0.low, r)) (lower_lows k f b.1 s.1)

-- and holds it, where s does
pub lower_holds : (k f : ℕ) (b s : Row Range k) → proper k b ≡ true → inside k s (lows k b) ≡ true → inside k (at_field up_to k f b s) (lows k b) ≡ true
lower_holds zero f b s p c = refl
lower_holds (suc k) zero b s p c =
    and_intro
    (up_to_is b.0 s.0 b.0.low
    ∙ and_intro (in_first k b (lows (suc k) b) (corner_in_lem (suc k) b p)) (ap not (le-ltb s.0.high b.0.low (le_high s.0 b.0.low (in_first k s (lows (suc k) b) c)))))
    (corner_in_lem k b.1 (and_right (leb b.0.low b.0.high) (proper k b.1) p))
lower_holds (suc k) (suc f) b s p c =
    and_intro (in_first k b (lows (suc k) b) (corner_in_lem (suc k) b p))
    (lower_holds k f b.1 s.1 (and_right (leb b.0.low b.0.high) (proper k b.1) p) (in_rest k s (lows (suc k) b) c))

-- the part above is proper, as the box is
pub upper_proper : (k f : ℕ) (b s : Row Range k) → Short k f b s → proper k b ≡ true → proper k (at_field above k f b s) ≡ true
upper_proper zero f b s o p = absurd o
upper_proper (suc k) zero b s o p =
    and_intro
    (ap (λ (t : Bool). leb (part t).low (part t).high) (lt-ltb s.0.high b.0.high o)
    ∙ le-leb (max b.0.low (s.0.high + 1)) b.0.high (higher b.0.low s.0.high b.0.high (leb-true b.0.low b.0.high (and_left (leb b.0.low b.0.high) (proper k b.1) p)) o))
    (and_right (leb b.0.low b.0.high) (proper k b.1) p)
  where
    part : Bool → Range
    part t = cond t (range (max b.0.low (s.0.high + 1)) b.0.high) empty

    higher : (l m n : ℕ) → l ≤ n → m < n → max l (m + 1) ≤ n
    higher l m n p q = omega arith
upper_proper (suc k) (suc f) b s o p =
    and_intro (and_left (leb b.0.low b.0.high) (proper k b.1) p)
    (upper_proper k f b.1 s.1 o (and_right (leb b.0.low b.0.high) (proper k b.1) p))

-- in how many fields s ends before b: each cut leaves fewer
abbrev one : Bool → ℕ
one t = cond t 1 0

abbrev pub shorts : (k : ℕ) → Row Range k → Row Range k → ℕ
shorts zero b s = 0
shorts (suc k) b s = one (ltb s.0.high b.0.high) + shorts k b.1 s.1
