-- The listed protocols of a range: from the least to the greatest of them, and whether there is one. Over any list.
-- Assumes nothing.
use Prim.Native.Nat.{ℕ, ◌+◌, ◌<◌, ◌≤◌, min, max}
use native.Mathlib.Omega.{arith}
use native.Mathlib.Numerals.{add-one}
use mathlib.Core.Path.{◌≡◌, refl, sym, ◌∙◌, ap, subst}
use mathlib.Core.Logic.{◌⊎◌, inl, inr}
use mathlib.Core.Bool.{Bool, true, false, cond, ◌&&◌}
use mathlib.Core.List.{List, [], ◌∷◌}
use lib.Dec.{ltb, eqb}
use lib.ListN.{length, get_or, drop}
use lib.Seq.{drop-cons}
use borrow.Author.Tests.{ltb-true, ltb-false, eqb-true, eq-eqb}
use Rattle.policy.specs.Box.{Range, range, within}
use Rattle.policy.specs.Ports.{one_of}
use Rattle.policy.specs.steps.Narrowed.{narrowed}
use Rattle.policy.proofs.Bool.{clash, and_left, and_right, or_elim, or_left, or_right}
use Rattle.policy.proofs.Conjunctions.{ends_are as ends_same}
use Rattle.policy.proofs.Box.{low_le, le_high, within_by}

-- every listed number is that of a protocol
abbrev pub numbered : List ℕ → Bool
numbered [] = true
numbered (q ∷ qs) = ltb q 256 && numbered qs

-- a listed protocol of the range is among those from the least to the greatest
pub narrowed_holds : (qs : List ℕ) (r : Range) (q : ℕ) → one_of qs q ≡ true → within r q ≡ true → within (narrowed qs r) q ≡ true
narrowed_holds [] r q o w = clash o refl
narrowed_holds (p ∷ qs) r q o w = go (within r p) refl (or_elim (eqb q p) (one_of qs q) o) (λ o. narrowed_holds qs r q o w)
  where
    n : Range
    n = narrowed qs r

    here : (q p l h : ℕ) → q ≡ p → (min p l ≤ q) × (q ≤ max p h)
    here q p l h e = (omega arith, omega arith)

    wider : (q p l h : ℕ) → l ≤ q → q ≤ h → (min p l ≤ q) × (q ≤ max p h)
    wider q p l h a b = (omega arith, omega arith)

    held : (min p n.low ≤ q) × (q ≤ max p n.high) → within (range (min p n.low) (max p n.high)) q ≡ true
    held e = within_by (range (min p n.low) (max p n.high)) q e.0 e.1

    go : (t : Bool) → within r p ≡ t → (eqb q p ≡ true) ⊎ (one_of qs q ≡ true) → (one_of qs q ≡ true → within n q ≡ true)
        → within (cond t (range (min p n.low) (max p n.high)) n) q ≡ true
    go true e (inl m) ih = held (here q p n.low n.high (eqb-true q p m))
    go true e (inr m) ih = held (wider q p n.low n.high (low_le n q (ih m)) (le_high n q (ih m)))
    go false e (inl m) ih = clash w (ap (within r) (eqb-true q p m) ∙ e)
    go false e (inr m) ih = ih m

-- none is listed; or the ends are listed protocols of the range
abbrev Ends : List ℕ → Range → Range → Type 0
Ends qs r n =
    (n ≡ range 256 0)
    ⊎ ((one_of qs n.low ≡ true) × ((within r n.low ≡ true) × (within r n.high ≡ true)))

ends_are : (qs : List ℕ) (r : Range) → numbered qs ≡ true → Ends qs r (narrowed qs r)
ends_are [] r n = inl refl
ends_are (p ∷ qs) r t = go (within r p) refl (ends_are qs r (and_right (ltb p 256) (numbered qs) t))
  where
    n : Range
    n = narrowed qs r

    -- what holds of two numbers holds of the lesser and of the greater
    least : (P : ℕ → Type 0) (a b : ℕ) → P a → P b → P (min a b)
    least P a b x y = at (ltb a b) refl
      where
        at : (t : Bool) → ltb a b ≡ t → P (min a b)
        at true e = subst P (first a b (ltb-true a b e)) x
          where
            first : (a b : ℕ) → a < b → a ≡ min a b
            first a b l = omega arith
        at false e = subst P (second a b (ltb-false a b e)) y
          where
            second : (a b : ℕ) → b ≤ a → b ≡ min a b
            second a b l = omega arith

    greatest : (P : ℕ → Type 0) (a b : ℕ) → P a → P b → P (max a b)
    greatest P a b x y = at (ltb a b) refl
      where
        at : (t : Bool) → ltb a b ≡ t → P (max a b)
        at true e = subst P (second a b (ltb-true a b e)) y
          where
            second : (a b : ℕ) → a < b → b ≡ max a b
            second a b l = omega arith
        at false e = subst P (first a b (ltb-false a b e)) x
          where
            first : (a b : ℕ) → b ≤ a → a ≡ max a b
            first a b l = omega arith

    listed : one_of (p ∷ qs) p ≡ true
    listed = or_left (eqb p p) (one_of qs p) (eq-eqb p p refl)

    alone : (p l h : ℕ) → p < 256 → l ≡ 256 → h ≡ 0 → (p ≡ min p l) × (p ≡ max p h)
    alone p l h m a b = (omega arith, omega arith)

    go : (t : Bool) → within r p ≡ t → Ends qs r n → Ends (p ∷ qs) r (cond t (range (min p n.low) (max p n.high)) n)
    go true e (inl m) =
        let one = alone p n.low n.high (ltb-true p 256 (and_left (ltb p 256) (numbered qs) t)) (ap (λ (r : Range). r.low) m) (ap (λ (r : Range). r.high) m) in
        inr (subst (λ (x : ℕ). one_of (p ∷ qs) x ≡ true) one.0 listed, (subst (λ (x : ℕ). within r x ≡ true) one.0 e, subst (λ (x : ℕ). within r x ≡ true) one.1 e))
    go true e (inr m) =
        inr (
          least (λ x. one_of (p ∷ qs) x ≡ true) p n.low listed (or_right (eqb n.low p) (one_of qs n.low) m.0),
          (least (λ x. within r x ≡ true) p n.low e m.1.0, greatest (λ x. within r x ≡ true) p n.high e m.1.1),
        )
    go false e (inl m) = inl m
    go false e (inr m) = inr (or_right (eqb n.low p) (one_of qs n.low) m.0, m.1)

-- where the least is not past the greatest, both are listed protocols of the range
pub narrowed_ends : (qs : List ℕ) (r : Range) → numbered qs ≡ true → (narrowed qs r).low ≤ (narrowed qs r).high
    → (one_of qs (narrowed qs r).low ≡ true) × ((within r (narrowed qs r).low ≡ true) × (within r (narrowed qs r).high ≡ true))
narrowed_ends qs r t l = go (ends_are qs r t)
  where
    none : (l h : ℕ) → l ≡ 256 → h ≡ 0 → l ≤ h → ⊥
    none l h a b m = omega arith

    go : Ends qs r (narrowed qs r) → (one_of qs (narrowed qs r).low ≡ true) × ((within r (narrowed qs r).low ≡ true) × (within r (narrowed qs r).high ≡ true))
    go (inl m) = absurd (none (narrowed qs r).low (narrowed qs r).high (ap (λ (r : Range). r.low) m) (ap (λ (r : Range). r.high) m) l)
    go (inr m) = m

-- ---- the loop over the list

-- n and protocol q, if q lies in the range
abbrev pub taken : Range → ℕ → Range → Range
taken r q n = cond (within r q) (range (min q n.low) (max q n.high)) n

-- n and those listed of the range
abbrev pub taken_all : Range → Range → List ℕ → Range
taken_all r n [] = n
taken_all r n (q ∷ qs) = taken r q (taken_all r n qs)

-- two are taken in either order
taken_any : (r : Range) (p q : ℕ) (n : Range) → taken r q (taken r p n) ≡ taken r p (taken r q n)
taken_any r p q n = go (within r p) (within r q)
  where
    at : Bool → ℕ → Range → Range
    at b q n = cond b (range (min q n.low) (max q n.high)) n

    least : (p q l : ℕ) → min q (min p l) ≡ min p (min q l)
    least p q l = omega arith

    greatest : (p q h : ℕ) → max q (max p h) ≡ max p (max q h)
    greatest p q h = omega arith

    go : (a b : Bool) → at b q (at a p n) ≡ at a p (at b q n)
    go true true = ends_same (least p q n.low) (greatest p q n.high)
    go true false = refl
    go false true = refl
    go false false = refl

-- the first of those listed may be taken before the others
taken_before : (r : Range) (q : ℕ) (n : Range) (qs : List ℕ) → taken_all r (taken r q n) qs ≡ taken r q (taken_all r n qs)
taken_before r q n [] = refl
taken_before r q n (p ∷ qs) = ap (taken r p) (taken_before r q n qs) ∙ taken_any r q p (taken_all r n qs)

pub taken_more : (qs : List ℕ) (r n m w : Range) (i q : ℕ) → i < length qs → q ≡ get_or qs i 0 → m ≡ taken r q n
    → taken_all r n (drop i qs) ≡ w → taken_all r m (drop (i + 1) qs) ≡ w
taken_more qs r n m w i q l e g h =
    ap (λ (m : Range). taken_all r m (drop (i + 1) qs)) (g ∙ ap (λ (q : ℕ). taken r q n) e)
    ∙ taken_before r (get_or qs i 0) n (drop (i + 1) qs)
    ∙ ap (taken_all r n) (sym (drop-cons qs i 0 l ∙ ap (λ (j : ℕ). get_or qs i 0 ∷ drop j qs) (sym (add-one i))))
    ∙ h
