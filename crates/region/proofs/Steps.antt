-- What the code's branches show of the search: its answers, what each part above a row is handed, and what is left below.
-- Assumes nothing.
use Rattle.std.specs.Prelude.{None, Option, Some}
use Rattle.std.proofs.Common.{◌≡◌, ℕ, ◌+◌, ◌-◌, ◌*◌, ◌<◌, ◌≤◌, Bool, true, false, not, ◌&&◌, List, length, sym, refl, ap, ◌∙◌, subst, ap₂, arith}
use Rattle.policy.specs.declared.header.Header.{Header}
use Rattle.policy.specs.declared.entry.Entry.{Entry}
use Rattle.policy.specs.Box.{inside, proper}
use Rattle.policy.specs.steps.Boxes.{lows, fits}
use Rattle.policy.specs.steps.Cut.{above}
use Rattle.policy.specs.Header.{arity, fields, header, sizes, Box, lies, Headers, among, headers}
use Rattle.policy.specs.steps.Findings.{lesser}
use Rattle.policy.specs.Least.{least_in}
use Rattle.policy.specs.Policy.{missed}
use Rattle.policy.proofs.Bool.{is_false, clash, not_true, not_false, and_left, and_right, same_truth}
use Rattle.policy.proofs.Box.{in_proper, corner_in_lem}
use Rattle.policy.proofs.Least.{agree, least_none, lesser_assoc, lesser_comm}
use Rattle.policy.proofs.Branch.{corner}
use Rattle.region.specs.declared.pick.Picked.{Picked}
use Rattle.region.specs.declared.pick.Picked.TheVariants.{Held, Free, Covered}
use Rattle.region.specs.steps.Corner.{improves, holds_corner, reaches, selector_in, Picks, PicksBefore, meeting}
use Rattle.region.specs.steps.Pieces.{up_to, at_field, Short}
use Rattle.region.specs.steps.Narrowing.{Part, Narrows, NarrowsTo}
use Rattle.region.specs.steps.Searchable.{Searchable, Ready, Same, Remainder}
use Rattle.region.proofs.Split.{split, upper_part, upper_outside, upper_proper, lower_part, lower_lows, lower_holds}
use Rattle.region.proofs.Meeting.{meets_corner, meeting_le, meeting_lt}
use Rattle.region.proofs.Opening.{improved, pruned}
use Rattle.region.proofs.Members.{catches}
use Rattle.region.proofs.Choosing.{inside_all}

-- none of the box is missed
covered_none : (hs : Headers) (P : Header → Bool) (b : Box) → ((h : Header) → lies b h ≡ true → P h ≡ false) → least_in hs b P ≡ None
unfolding least_in
covered_none hs P b c = least_none hs (λ h. lies b h && P h) λ g a. is_false (lies b g && P g) λ i. clash (and_right (lies b g) (P g) i) (c g (and_left (lies b g) (P g) i))

-- no header lies in the box
none_in : (hs : Headers) (P : Header → Bool) (b : Box) → ((h : Header) → among hs h ≡ true → lies b h ≡ false) → least_in hs b P ≡ None
unfolding least_in
none_in hs P b c = least_none hs (λ h. lies b h && P h) λ g a. ap (◌&& P g) (c g a)

-- a part of the box has the same headers
same_headers : (hs : Headers) (P : Header → Bool) (b p : Box) → Part p b → ((h : Header) → among hs h ≡ true → lies b h ≡ true → lies p h ≡ true) → least_in hs b P ≡ least_in hs p P
unfolding least_in
same_headers hs P b p part same = agree hs (λ h. lies b h && P h) (λ h. lies p h && P h) λ h a. ap (◌&& P h) (same_truth (lies b h) (lies p h) (same h a) (part (fields h)))

-- ---- the pick

module _ (es : List Entry) (x : Box) (best : Option Header) (c : Header) (t : Bool) (p : c ≡ header (lows arity x)) (e : t ≡ improves c best) where
  improves_is : (u : Bool) → t ≡ u → improves (header (lows arity x)) best ≡ u
  improves_is u q = ap (λ (h : Header). improves h best) (sym p) ∙ sym e ∙ q

  pub pruned_before : not t ≡ true → best ≡ lesser (least_in headers x (missed es)) best
  pruned_before n = pruned headers (missed es) x best (improves_is false (not_true n))

  pub picked_before : (r : Picked) → proper arity x ≡ true → among headers (header (lows arity x)) ≡ true → not t ≡ false → Picks es x r → PicksBefore es x best r
  picked_before (Held i) i-proper w n y = y
  picked_before Free i-proper w n y =
      improved (header (lows arity x)) best (improves_is true (not_false n))
      ∙ ap (λ (r : Option Header). lesser r best) (sym (corner headers x (missed es) w i-proper y))
  picked_before Covered i-proper w n y = ap (λ (r : Option Header). lesser r best) (sym (covered_none headers (missed es) x y))

-- the part that holds the headers of x has none
pub picked_none : (es : List Entry) (x y : Box) (best : Option Header) (t : Bool) → NarrowsTo headers x y t → not t ≡ true → PicksBefore es y best Covered
picked_none es x y best t w n = ap (λ (r : Option Header). lesser r best) (sym (none_in headers (missed es) y (w.none (not_true n))))

module _ (es : List Entry) where
  -- ---- the cuts

  -- a part of the box that fewer entries meet
  abbrev pub Piece : ℕ → Box → Type 0
  Piece left p = (1 ≤ left) × Searchable es p (left - 1)

  -- s ends before b in field number f
  module _ (s b : Box) (left f : ℕ) (d : Ready es s b left) (o : Short arity f b s) where
    -- the part above
    piece : (p : Box) → p ≡ at_field above arity f b s → Piece left p
    piece p e = subst (Piece left) (sym e) (
      some m k left falls d.box.few,
      record {
        is_proper = upper_proper arity f b s o d.box.is_proper;
        fitting = λ x i. d.box.fitting x (upper_part f b s o x i);
        few = less m k left falls d.box.few;
      },
    )
      where
        upper : Box
        upper = at_field above arity f b s

        m : ℕ
        m = meeting es upper

        k : ℕ
        k = meeting es b

        falls : m < k
        falls = meeting_lt upper b (upper_part f b s o) s (upper_outside f b s o) (meets_corner b s d.box.is_proper d.corner_held) es d.number d.listed d.its

        some : (i j left : ℕ) → i < j → j ≤ left → 1 ≤ left
        some i j left p q = omega arith

        less : (i j left : ℕ) → i < j → j ≤ left → i ≤ left - 1
        less i j left p q = omega arith

    -- the part below
    lower_ready : (p : Box) → p ≡ at_field up_to arity f b s → Ready es s p left
    lower_ready p e = subst (λ (p : Box). Ready es s p left) (sym e) record {
      number = d.number;
      listed = d.listed;
      its = d.its;
      corner_held = ap (inside arity s) (lower_lows arity f b s) ∙ d.corner_held;
      box = record {
        is_proper = in_proper arity lower (lows arity b) (lower_holds arity f b s d.box.is_proper d.corner_held);
        fitting = λ x i. d.box.fitting x (lower_part f b s o x i);
        few = trans (meeting es lower) (meeting es b) left (meeting_le lower b (lower_part f b s o) es) d.box.few;
      };
    }
      where
        lower : Box
        lower = at_field up_to arity f b s

        trans : (i j k : ℕ) → i ≤ j → j ≤ k → i ≤ k
        trans i j k p q = omega arith

module _ (hs : Headers) (es : List Entry) where
  -- what is missed of b is missed of the two parts
  parts : (s b : Box) (f : ℕ) → Short arity f b s → (lower upper : Box) (r : Option Header) → upper ≡ at_field above arity f b s → lower ≡ at_field up_to arity f b s
      → lesser (least_in hs b (missed es)) r ≡ lesser (least_in hs lower (missed es)) (lesser (least_in hs upper (missed es)) r)
  parts s b f o lower upper r e k =
      ap (λ (q : Option Header). lesser q r) (split f b s o hs (missed es))
      ∙ lesser_assoc (least_in hs (at_field up_to arity f b s) (missed es)) (least_in hs (at_field above arity f b s) (missed es)) r
      ∙ sym (ap₂ (λ (p q : Box). lesser (least_in hs p (missed es)) (lesser (least_in hs q (missed es)) r)) k e)

  -- what is missed of the rest and of the part that is kept, below the finding
  abbrev pub Both : Box → Box → Option Header → Option Header
  Both rest kept found = lesser (least_in hs rest (missed es)) (lesser (least_in hs kept (missed es)) found)

  module _ (s b : Box) (f : ℕ) (o : Short arity f b s) (lower upper : Box)
      (e : upper ≡ at_field above arity f b s) (k : lower ≡ at_field up_to arity f b s) where
    -- the first part is kept
    kept_first : (best : Option Header) → lesser (least_in hs b (missed es)) best ≡ Both lower upper best
    kept_first best = parts s b f o lower upper best e k

    -- of two, one is kept and the other is searched
    module _ (kept : Box) (found new : Option Header) where
      kept_again : new ≡ lesser (least_in hs upper (missed es)) found → Both b kept found ≡ Both lower kept new
      kept_again w =
          parts s b f o lower upper (lesser K found) e k
          ∙ ap (lesser (least_in hs lower (missed es)))
          (sym (lesser_assoc U K found) ∙ ap (λ (r : Option Header). lesser r found) (lesser_comm U K) ∙ lesser_assoc K U found ∙ ap (lesser K) (sym w))
        where
          U : Option Header
          U = least_in hs upper (missed es)

          K : Option Header
          K = least_in hs kept (missed es)

      kept_anew : new ≡ lesser (least_in hs kept (missed es)) found → Both b kept found ≡ Both lower upper new
      kept_anew w =
          parts s b f o lower upper (lesser (least_in hs kept (missed es)) found) e k
          ∙ ap (λ (r : Option Header). lesser (least_in hs lower (missed es)) (lesser (least_in hs upper (missed es)) r)) (sym w)

  -- s holds all of b
  reached_none : (s b : Box) (left : ℕ) → Ready es s b left → reaches arity s b ≡ true → least_in hs b (missed es) ≡ None
  reached_none s b left d r = covered_none hs (missed es) b λ h i.
      catches es d.number d.listed h (ap (λ (s : Box). lies s h) (sym d.its) ∙ inside_all arity s b (fields h) d.corner_held r i)

  -- the loop over the cuts: x is cut, one part is kept, and the others were searched since x was b and the part c
  pub record Cutting (s : Box) (left : ℕ) (b c : Box) (best : Option Header) (x kept : Box) (found : Option Header) : Type 0 where
    pub ready : Ready es s x left
    pub piece : Piece es left kept
    pub same : Both b c best ≡ Both x kept found

  module _ (s b : Box) (left f : ℕ) (d : Ready es s b left) (o : Short arity f b s) (lower upper : Box)
      (e : upper ≡ at_field above arity f b s) (k : lower ≡ at_field up_to arity f b s) where
    pub cutting_first : (best : Option Header) → Cutting s left lower upper best lower upper best
    cutting_first best = record { ready = lower_ready es s b left f d o lower k; piece = piece es s b left f d o upper e; same = refl }

    pub parted : (best : Option Header) (x kept : Box) (found : Option Header) → Cutting s left lower upper best x kept found → reaches arity s x ≡ true → Remainder hs es b best left kept found
    parted best x kept found c r = record {
      some = c.piece.0;
      box = c.piece.1;
      same =
          kept_first s b f o lower upper e k best
          ∙ c.same
          ∙ ap (λ (r : Option Header). lesser r (lesser (least_in hs kept (missed es)) found)) (reached_none s x left c.ready r);
    }

  -- the part above the next cut
  pub cutting_piece : (s : Box) (left : ℕ) (b c : Box) (best : Option Header) (x kept : Box) (found : Option Header) (f : ℕ) → Cutting s left b c best x kept found → Short arity f x s
      → (upper : Box) → upper ≡ at_field above arity f x s → Searchable es upper (left - 1)
  cutting_piece s left b c best x kept found f i o upper e = (piece es s x left f i.ready o upper e).1

  module _ (s : Box) (left : ℕ) (b c : Box) (best : Option Header) (x kept : Box) (found : Option Header) (f : ℕ) (i : Cutting s left b c best x kept found) (o : Short arity f x s)
      (lower upper : Box) (e : upper ≡ at_field above arity f x s) (k : lower ≡ at_field up_to arity f x s) where
    pub cutting_again : (new : Option Header) → new ≡ lesser (least_in hs upper (missed es)) found → Cutting s left b c best lower kept new
    cutting_again new w = record {
      ready = lower_ready es s x left f i.ready o lower k;
      piece = i.piece;
      same = i.same ∙ kept_again s x f o lower upper e k kept found new w;
    }

    pub cutting_anew : (new : Option Header) → new ≡ lesser (least_in hs kept (missed es)) found → Cutting s left b c best lower upper new
    cutting_anew new w = record {
      ready = lower_ready es s x left f i.ready o lower k;
      piece = piece es s x left f i.ready o upper e;
      same = i.same ∙ kept_anew s x f o lower upper e k kept found new w;
    }

-- ---- the loop over what is left of the box

-- of b, below best, x is still to be searched; it was narrowed to its headers
pub record Open (es : List Entry) (b : Box) (best : Option Header) (x : Box) (found : Option Header) (n : ℕ) (picked : Picked) : Type 0 where
  pub box : Searchable es x n
  pub same : Same headers es b best x found
  pub pick : PicksBefore es x found picked

narrowed_same : (es : List Entry) (x y : Box) → Narrows headers x y → (found : Option Header) → Same headers es x found y found
narrowed_same es x y w found = ap (λ (c : Option Header). lesser c found) (same_headers headers (missed es) x y w.part w.same)

module _ (es : List Entry) (x : Box) (n : ℕ) (d : Searchable es x n) (y : Box) (w : Narrows headers x y) where
  narrowed_box : Searchable es y n
  narrowed_box = record {
    is_proper = w.is_proper;
    fitting = λ z i. d.fitting z (w.part z i);
    few = trans (meeting es y) (meeting es x) n (meeting_le y x w.part es) d.few;
  }
    where
      trans : (i j k : ℕ) → i ≤ j → j ≤ k → i ≤ k
      trans i j k p q = omega arith

  pub open_first : (best : Option Header) (picked : Picked) → PicksBefore es y best picked → Open es y best y best n picked
  open_first best picked p = record { box = narrowed_box; same = refl; pick = p }

module _ (es : List Entry) (b : Box) (best : Option Header) (x : Box) (found : Option Header) (n : ℕ) (picked : Picked) (o : Open es b best x found n picked) where
  pick_is : (q : Picked) → picked ≡ q → PicksBefore es x found q
  pick_is q e = subst (PicksBefore es x found) e o.pick

  pub open_fits : fits arity sizes (lows arity x) ≡ true
  open_fits = o.box.fitting (lows arity x) (corner_in_lem arity x o.box.is_proper)

  module _ (i : ℕ) (e : picked ≡ Held i) where
    pub open_listed : i < length es
    open_listed = (pick_is (Held i) e).0

    module _ (s : Box) (p : s ≡ selector_in es i) where
      -- the row that was picked is ready to be cut off
      pub open_ready : Ready es s x n
      open_ready = record { number = i; listed = open_listed; its = p; corner_held = ap (λ (s : Box). holds_corner s x) p ∙ (pick_is (Held i) e).1; box = o.box }

  pub open_again : (rest y : Box) (new : Option Header) (next : Picked) → Remainder headers es x found n rest new → Narrows headers rest y → PicksBefore es y new next → Open es b best y new (n - 1) next
  open_again rest y new next d w p = record {
    box = narrowed_box es rest (n - 1) d.box y w;
    same = o.same ∙ d.same ∙ narrowed_same es rest y w new;
    pick = p;
  }

  -- the answers, of the box z whose headers b holds
  module _ (z : Box) (v : Narrows headers z b) where
    all_same : Same headers es z best x found
    all_same = narrowed_same es z b v best ∙ o.same

    pub open_free : (c : Header) → picked ≡ Free → c ≡ header (lows arity x) → Some c ≡ lesser (least_in headers z (missed es)) best
    open_free c e p = ap Some p ∙ pick_is Free e ∙ sym all_same

    pub open_covered : picked ≡ Covered → found ≡ lesser (least_in headers z (missed es)) best
    open_covered e = pick_is Covered e ∙ sym all_same

    pub open_reached : (i : ℕ) → picked ≡ Held i → (s : Box) → s ≡ selector_in es i → (t : Bool) → t ≡ reaches arity s x → t ≡ true → found ≡ lesser (least_in headers z (missed es)) best
    open_reached i e s p t q r = ap (λ (c : Option Header). lesser c found) (sym (reached_none headers es s x n (open_ready i e s p) (sym q ∙ r))) ∙ sym all_same

-- the measures of the two functions fall
pub falls_down : (left t : ℕ) → 2 * left ≡ t → 1 ≤ left → 2 * (left - 1) + 1 < t
falls_down left t e l = omega arith

pub under : (n left : ℕ) → n ≤ left → n - 1 ≤ left
under n left l = omega arith
