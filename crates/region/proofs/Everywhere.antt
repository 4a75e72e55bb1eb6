-- The box of everything holds every header, so a box is searched by its part in it. Over any set of headers.
-- Assumes nothing.
use Rattle.std.specs.Prelude.{None, Option}
use Rattle.std.proofs.Common.{◌≡◌, ℕ, ◌+◌, ◌/◌, ◌≤◌, Bool, true, not, ◌&&◌, List, ◌++◌, length, sym, refl, ap, ◌∙◌, subst}
use mathlib.Core.Bool.{and-true}
use Rattle.policy.specs.declared.header.Header.{Header}
use Rattle.policy.specs.Box.{inside, proper, meet}
use Rattle.policy.specs.Header.{arity, fields, Box, lies, Headers, sizes, everything}
use Rattle.policy.specs.steps.Findings.{lesser}
use Rattle.policy.specs.Least.{least, least_in}
use Rattle.policy.specs.steps.Rows.{row_size, rows_in}
use Rattle.policy.proofs.Bool.{not_true, and_right}
use Rattle.policy.proofs.Box.{meet_is}
use Rattle.policy.proofs.Least.{inside_fits, agree, lesser_last}
use Rattle.policy.proofs.Branch.{crossed_none}
use Rattle.policy.proofs.HeaderSet.{in_everything}
use Rattle.region.specs.steps.Corner.{meeting}
use Rattle.region.specs.steps.Narrowing.{Fitting}
use Rattle.region.proofs.Meeting.{meeting_all}
use Rattle.region.proofs.Members.{length_two}

-- the search of it is the search of all headers
pub least_everywhere : (hs : Headers) (P : Header → Bool) → least_in hs everything P ≡ least hs P
unfolding least_in
least_everywhere hs P = agree hs (λ h. lies everything h && P h) P λ h a. ap (◌&& P h) (in_everything hs h a)

pub least_gap : (hs : Headers) (P : Header → Bool) (b : Box) (r : Option Header) → b ≡ everything → r ≡ lesser (least_in hs b P) None → r ≡ least hs P
least_gap hs P b r e f = f ∙ lesser_last (least_in hs b P) ∙ ap (λ (b : Box). least_in hs b P) e ∙ least_everywhere hs P

-- ---- the part of a box in it

module _ (x p q : Box) (e : q ≡ everything) (m : p ≡ meet arity x q) where
  part_is : p ≡ meet arity x everything
  part_is = m ∙ ap (meet arity x) e

  pub part_fits : Fitting p
  part_fits n i =
      inside_fits arity sizes everything n refl
      (and_right (inside arity x n) (inside arity everything n) (sym (meet_is arity x everything n) ∙ ap (λ (b : Box). inside arity b n) (sym part_is) ∙ i))

  module _ (hs : Headers) (P : Header → Bool) where
    part_same : least_in hs p P ≡ least_in hs x P
    part_same =
        ap (λ (b : Box). least_in hs b P) part_is
        ∙ (unfold least_in in agree hs (λ h. lies (meet arity x everything) h && P h) (λ h. lies x h && P h) λ h a.
        ap (◌&& P h) (meet_is arity x everything (fields h) ∙ ap (lies x h &&◌) (in_everything hs h a) ∙ and-true (lies x h)))

    pub part_searched : (best r : Option Header) → r ≡ lesser (least_in hs p P) best → r ≡ lesser (least_in hs x P) best
    part_searched best r f = f ∙ ap (λ (r : Option Header). lesser r best) part_same

    pub part_crossed : (best : Option Header) (t : Bool) → t ≡ proper arity p → not t ≡ true → best ≡ lesser (least_in hs x P) best
    part_crossed best t f n = ap (λ (r : Option Header). lesser r best) (sym (crossed_none hs P p (sym f ∙ not_true n)) ∙ part_same)

-- no more rows meet a box than there are
pub rows_few : (a b : List ℕ) (p : Box) → meeting (rows_in a ++ rows_in b) p ≤ length a / row_size + length b / row_size
rows_few a b p = subst (λ (n : ℕ). meeting (rows_in a ++ rows_in b) p ≤ n) (length_two a b) (meeting_all (rows_in a ++ rows_in b) p)
