-- What the first refusal of a list of checks is, and what it shows that none refused.
-- Assumes nothing.
use Rattle.std.specs.Prelude.{None, Option, Some}
use Prim.Native.Nat.{ℕ}
use native.Mathlib.Omega.{arith}
use mathlib.Core.Path.{◌≡◌, refl, sym, ◌∙◌, ap}
use mathlib.Core.Bool.{Bool, true, false, cond}
use mathlib.Core.List.{List, [], ◌∷◌, ◌++◌}
use lib.Dec.{eqb}
use lib.ListN.{get_or}
use Rattle.policy.specs.declared.refusal.Refusal.{Refusal}
use Rattle.policy.specs.declared.refusal.Refusal.TheVariants.{Missized, Version, Count, Crossed, Gap, Party, Vacant, Bare, Crowded, Conflict, Narrow, Ranking}
use Rattle.policy.specs.declared.header.Header.{Header}
use Rattle.policy.specs.Header.{header}
use Rattle.policy.specs.Refusals.{Answer, refusal, accepted, is_accepted, refuse, refuse_at, first_of}
use Rattle.policy.proofs.Bool.{clash}

-- a check whose condition holds refuses; where it does not hold, the rest of the row answers
pub turns_away : (b : Bool) (r : Refusal) (rs : List (Option Answer)) (a : Answer) → b ≡ true → refusal r ≡ first_of (refuse b r ∷ rs) a
turns_away b r rs a e = sym (ap (λ (t : Bool). first_of (refuse t r ∷ rs) a) e)

pub goes_past : (b : Bool) (r : Refusal) (rs : List (Option Answer)) (a x : Answer) → b ≡ false → x ≡ first_of rs a → x ≡ first_of (refuse b r ∷ rs) a
goes_past b r rs a x e p = p ∙ sym (ap (λ (t : Bool). first_of (refuse t r ∷ rs) a) e)

-- rows after rows
pub first_of_append : (rs qs : List (Option Answer)) (a : Answer) → first_of (rs ++ qs) a ≡ first_of rs (first_of qs a)
first_of_append [] qs a = refl
first_of_append (Some r ∷ rs) qs a = refl
first_of_append (None ∷ rs) qs a = first_of_append rs qs a

-- a refusal has a number of its own
pub refusal_number : (r : Refusal) → (refusal r).number ≡ 0 → ⊥
refusal_number Missized p = omega arith
refusal_number Version p = omega arith
refusal_number Count p = omega arith
refusal_number (Crossed i) p = omega arith
refusal_number (Gap h) p = omega arith
refusal_number Party p = omega arith
refusal_number Vacant p = omega arith
refusal_number Bare p = omega arith
refusal_number Crowded p = omega arith
refusal_number (Conflict h) p = omega arith
refusal_number (Narrow n) p = omega arith
refusal_number Ranking p = omega arith

-- a refusal is not an acceptance
pub refusal-clash {ℓ} : {A : Type ℓ} (r : Refusal) (vs : List ℕ) → refusal r ≡ accepted vs → A
refusal-clash r vs e = absurd (refusal_number r (ap (λ (a : Answer). a.number) e))

-- a row that refuses does so whatever comes after it
pub refused_stays : (rs : List (Option Answer)) (vs : List ℕ) (r : Refusal) (a : Answer) → refusal r ≡ first_of rs (accepted vs) → refusal r ≡ first_of rs a
refused_stays [] vs r a e = refusal-clash r vs e
refused_stays (Some x ∷ rs) vs r a e = e
refused_stays (None ∷ rs) vs r a e = refused_stays rs vs r a e

-- what a check that did not refuse shows
pub not_refused : (b : Bool) (r : Refusal) (rs : List (Option Answer)) (a : Answer) (vs : List ℕ) → accepted vs ≡ first_of (refuse b r ∷ rs) a → (b ≡ false) × (accepted vs ≡ first_of rs a)
not_refused true r rs a vs e = refusal-clash r vs (sym e)
not_refused false r rs a vs e = (refl, e)

-- ---- lists of checks that may be accepted

-- no check refuses
abbrev pub Pass : List (Option Answer) → Type 0
Pass [] = Unit {0}
Pass (None ∷ rs) = Pass rs
Pass (Some a ∷ rs) = ⊥

-- what the checks answer, where they do, is no acceptance
abbrev pub Refuse : List (Option Answer) → Type 0
Refuse [] = Unit {0}
Refuse (None ∷ rs) = Refuse rs
Refuse (Some a ∷ rs) = (is_accepted a ≡ false) × Refuse rs

-- the refusal of an answer
abbrev refusal_of : Answer → Refusal
refusal_of a =
    cond (eqb n 1) Missized
    (cond (eqb n 2) Version
    (cond (eqb n 3) Count
    (cond (eqb n 4) (Crossed (value 0))
    (cond (eqb n 5) (Gap named)
    (cond (eqb n 6) Party
    (cond (eqb n 7) Vacant
    (cond (eqb n 8) Bare
    (cond (eqb n 9) Crowded
    (cond (eqb n 10) (Conflict named)
    (cond (eqb n 11) (Narrow (value 0))
    Ranking))))))))))
  where
    n : ℕ
    n = a.number

    value : ℕ → ℕ
    value i = get_or a.values i 0

    named : Header
    named = header (value 0, (value 1, (value 2, (value 3, (value 4, (value 5, tt))))))

-- it is read from the first values alone
again : (r : Refusal) (vs : List ℕ) → refusal_of (record { number = (refusal r).number; values = (refusal r).values ++ vs }) ≡ r
again Missized vs = refl
again Version vs = refl
again Count vs = refl
again (Crossed i) vs = refl
again (Gap h) vs = refl
again Party vs = refl
again Vacant vs = refl
again Bare vs = refl
again Crowded vs = refl
again (Conflict h) vs = refl
again (Narrow n) vs = refl
again Ranking vs = refl

-- refusals with the same number and the same values to begin with are the same
pub refusal_starts : (r s : Refusal) (vs ws : List ℕ)
    → ◌≡◌ {A = Answer} (record { number = (refusal r).number; values = (refusal r).values ++ vs }) (record { number = (refusal s).number; values = (refusal s).values ++ ws }) → r ≡ s
refusal_starts r s vs ws e = sym (again r vs) ∙ ap refusal_of e ∙ again s ws

pub refusal_same : (r s : Refusal) → refusal r ≡ refusal s → r ≡ s
refusal_same r s e = refusal_starts r s [] [] (ap (λ (a : Answer). record { number = a.number; values = a.values ++ [] }) e)

pub refusal_refuses : (r : Refusal) → is_accepted (refusal r) ≡ false
refusal_refuses Missized = refl
refusal_refuses Version = refl
refusal_refuses Count = refl
refusal_refuses (Crossed i) = refl
refusal_refuses (Gap h) = refl
refusal_refuses Party = refl
refusal_refuses Vacant = refl
refusal_refuses Bare = refl
refusal_refuses Crowded = refl
refusal_refuses (Conflict h) = refl
refusal_refuses (Narrow n) = refl
refusal_refuses Ranking = refl

pub refuse_refuses : (b : Bool) (r : Refusal) (rs : List (Option Answer)) → Refuse rs → Refuse (refuse b r ∷ rs)
refuse_refuses true r rs f = (refusal_refuses r, f)
refuse_refuses false r rs f = f

pub at_refuses : (r : Header → Refusal) (c : Option Header) (rs : List (Option Answer)) → Refuse rs → Refuse (refuse_at r c ∷ rs)
at_refuses r (Some h) rs f = (refusal_refuses (r h), f)
at_refuses r None rs f = f

-- an acceptance shows that none refused
pub accepted_passes : (rs : List (Option Answer)) (a : Answer) → Refuse rs → is_accepted (first_of rs a) ≡ true → Pass rs
accepted_passes [] a f e = tt
accepted_passes (None ∷ rs) a f e = accepted_passes rs a f e
accepted_passes (Some x ∷ rs) a f e = clash e f.0

-- and then the answer is the one at the end
pub passes : (rs : List (Option Answer)) (a : Answer) → Pass rs → first_of rs a ≡ a
passes [] a p = refl
passes (None ∷ rs) a p = passes rs a p
passes (Some x ∷ rs) a p = absurd p

-- each check of a list that passes
pub refuse_passes : (b : Bool) (r : Refusal) (rs : List (Option Answer)) → Pass (refuse b r ∷ rs) → (b ≡ false) × Pass rs
refuse_passes true r rs p = absurd p
refuse_passes false r rs p = (refl, p)

pub at_passes : (r : Header → Refusal) (c : Option Header) (rs : List (Option Answer)) → Pass (refuse_at r c ∷ rs) → (c ≡ None) × Pass rs
at_passes r (Some h) rs p = absurd p
at_passes r None rs p = (refl, p)

pub append_passes : (rs qs : List (Option Answer)) → Pass (rs ++ qs) → Pass rs × Pass qs
append_passes [] qs p = (tt, p)
append_passes (None ∷ rs) qs p = append_passes rs qs p
append_passes (Some a ∷ rs) qs p = absurd p
