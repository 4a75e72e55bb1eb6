-- Boxes: the low corner is the least row, and what is in a box and outside another is in a piece of the cut. Over any number of fields.
-- Assumes nothing.
use Prim.Native.Nat.{ℕ, zero, suc, ◌<◌, ◌≤◌, ◌-◌, ◌+◌, min, max}
use native.Mathlib.Omega.{arith}
use mathlib.Core.Path.{◌≡◌, refl, sym, ◌∙◌, ap, ap₂}
use mathlib.Core.Logic.{◌⊎◌, inl, inr}
use mathlib.Core.Bool.{Bool, true, false, not, cond, ◌&&◌, ◌||◌, or_assoc, and-false, and-or_distrib_left, and-or_distrib_right}
use mathlib.Core.List.{List, [], ◌∷◌, map}
use lib.Dec.{ltb, leb, eqb}
use borrow.Author.Tests.{ltb-true, ltb-false, leb-true, leb-false, lt-ltb, le-ltb, le-leb, eqb-true}
use Rattle.policy.specs.Row.{Row, precedes}
use Rattle.policy.specs.Box.{Range, range, within, inside, proper, common, meet}
use Rattle.policy.specs.steps.Boxes.{same_box, lows}
use Rattle.policy.specs.steps.Cut.{empty, below, above, cut}
use Rattle.policy.proofs.Bool.{case, clash, is_false, and_intro, and_left, and_right, same_truth}
use Rattle.policy.proofs.Order.{pre_cases}
use Rattle.policy.proofs.Conjunctions.{ends_are, paired}

-- some element of the list has the property
abbrev pub any {ℓ κ} : {A : Type ℓ} {X : Type κ} → (A → X → Bool) → List A → X → Bool
any f [] x = false
any f (p ∷ ps) x = f p x || any f ps x

pub low_le : (r : Range) (x : ℕ) → within r x ≡ true → r.low ≤ x
low_le r x e = leb-true r.low x (and_left (leb r.low x) (leb x r.high) e)

pub le_high : (r : Range) (x : ℕ) → within r x ≡ true → x ≤ r.high
le_high r x e = leb-true x r.high (and_right (leb r.low x) (leb x r.high) e)

pub within_by : (r : Range) (x : ℕ) → r.low ≤ x → x ≤ r.high → within r x ≡ true
within_by r x l m = and_intro (le-leb r.low x l) (le-leb x r.high m)

-- a region's first field, and the others
pub in_first : (k : ℕ) (r : Row Range (suc k)) (x : Row ℕ (suc k)) → inside (suc k) r x ≡ true → within r.0 x.0 ≡ true
in_first k r x e = and_left (within r.0 x.0) (inside k r.1 x.1) e

pub in_rest : (k : ℕ) (r : Row Range (suc k)) (x : Row ℕ (suc k)) → inside (suc k) r x ≡ true → inside k r.1 x.1 ≡ true
in_rest k r x e = and_right (within r.0 x.0) (inside k r.1 x.1) e

-- the corner
pub corner_in_lem : (k : ℕ) (r : Row Range k) → proper k r ≡ true → inside k r (lows k r) ≡ true
corner_in_lem zero r e = refl
corner_in_lem (suc k) r e =
    and_intro (within_by r.0 r.0.low (omega arith) (leb-true r.0.low r.0.high (and_left (leb r.0.low r.0.high) (proper k r.1) e)))
    (corner_in_lem k r.1 (and_right (leb r.0.low r.0.high) (proper k r.1) e))

pub in_proper : (k : ℕ) (r : Row Range k) (x : Row ℕ k) → inside k r x ≡ true → proper k r ≡ true
in_proper zero r x e = refl
in_proper (suc k) r x e =
    let l = low_le r.0 x.0 (in_first k r x e) in
    let m = le_high r.0 x.0 (in_first k r x e) in
    and_intro (le-leb r.0.low r.0.high (omega (arith, l, m))) (in_proper k r.1 x.1 (in_rest k r x e))

pub none_before : (k : ℕ) (r : Row Range k) (x : Row ℕ k) → inside k r x ≡ true → precedes k x (lows k r) ≡ true → ⊥
none_before zero r x e p = clash p refl
none_before (suc k) r x e p = go (none_before k r.1 x.1 (in_rest k r x e)) (pre_cases k x (lows (suc k) r) p)
  where
    go : (precedes k x.1 (lows k r.1) ≡ true → ⊥)
        → (x.0 < r.0.low) ⊎ ((x.0 ≡ r.0.low) × (precedes k x.1 (lows k r.1) ≡ true)) → ⊥
    go ih (inl l) = omega (arith, low_le r.0 x.0 (in_first k r x e))
    go ih (inr l) = ih l.1

-- the part inside a selector
pub common_is : (b s : Range) (x : ℕ) → within (common b s) x ≡ (within b x && within s x)
common_is b s x =
    same_truth (within (common b s) x) (within b x && within s x)
    (λ e.
    let l = low_le (common b s) x e in
    let m = le_high (common b s) x e in
    and_intro (within_by b x (omega (arith, l)) (omega (arith, m))) (within_by s x (omega (arith, l)) (omega (arith, m))))
    (λ e.
    let p = and_left (within b x) (within s x) e in
    let q = and_right (within b x) (within s x) e in
    within_by (common b s) x (omega (arith, low_le b x p, low_le s x q)) (omega (arith, le_high b x p, le_high s x q)))

pub meet_is : (k : ℕ) (b s : Row Range k) (x : Row ℕ k) → inside k (meet k b s) x ≡ (inside k b x && inside k s x)
meet_is zero b s x = refl
meet_is (suc k) b s x =
    ap₂ ◌&&◌ (common_is b.0 s.0 x.0) (meet_is k b.1 s.1 x.1)
    ∙ swap (within b.0 x.0) (within s.0 x.0) (inside k b.1 x.1) (inside k s.1 x.1)
  where
    swap : (p q u v : Bool) → (p && q && (u && v)) ≡ (p && u && (q && v))
    swap false q u v = refl
    swap true true u v = refl
    swap true false true v = refl
    swap true false false v = refl

none_in : (x : ℕ) → within empty x ≡ false
none_in x = is_false (within empty x) λ i. omega (arith, low_le empty x i, le_high empty x i)

-- the parts of a range below and above another
pub below_is : (b s : Range) (x : ℕ) → within (below b s) x ≡ (within b x && ltb x s.low)
below_is b s x = go (ltb b.low s.low) refl
  where
    part : Range
    part = range b.low (min b.high (s.low - 1))

    go : (t : Bool) → ltb b.low s.low ≡ t → within (cond t part empty) x ≡ (within b x && ltb x s.low)
    go true e =
        let n = ltb-true b.low s.low e in
        same_truth (within part x) (within b x && ltb x s.low)
        (λ i.
        let l = low_le part x i in
        let m = le_high part x i in
        and_intro (within_by b x (omega (arith, l)) (omega (arith, m))) (lt-ltb x s.low (omega (arith, m, n))))
        (λ i.
        let p = and_left (within b x) (ltb x s.low) i in
        let q = ltb-true x s.low (and_right (within b x) (ltb x s.low) i) in
        within_by part x (low_le b x p) (omega (arith, le_high b x p, q, n)))
    go false e = none_in x ∙ sym (is_false (within b x && ltb x s.low) λ i.
        let p = and_left (within b x) (ltb x s.low) i in
        let q = ltb-true x s.low (and_right (within b x) (ltb x s.low) i) in
        let n = ltb-false b.low s.low e in
        omega (arith, low_le b x p, q, n))

pub above_is : (b s : Range) (x : ℕ) → within (above b s) x ≡ (within b x && ltb s.high x)
above_is b s x = go (ltb s.high b.high) refl
  where
    part : Range
    part = range (max b.low (s.high + 1)) b.high

    go : (t : Bool) → ltb s.high b.high ≡ t → within (cond t part empty) x ≡ (within b x && ltb s.high x)
    go true e =
        same_truth (within part x) (within b x && ltb s.high x)
        (λ i.
        let l = low_le part x i in
        and_intro (within_by b x (omega (arith, l)) (le_high part x i)) (lt-ltb s.high x (omega (arith, l))))
        (λ i.
        let p = and_left (within b x) (ltb s.high x) i in
        let q = ltb-true s.high x (and_right (within b x) (ltb s.high x) i) in
        within_by part x (omega (arith, low_le b x p, q)) (le_high b x p))
    go false e = none_in x ∙ sym (is_false (within b x && ltb s.high x) λ i.
        let p = and_left (within b x) (ltb s.high x) i in
        let q = ltb-true s.high x (and_right (within b x) (ltb s.high x) i) in
        let n = ltb-false s.high b.high e in
        omega (arith, le_high b x p, q, n))

-- outside a range: below it or above it
outside : (s : Range) (x : ℕ) → not (within s x) ≡ (ltb x s.low || ltb s.high x)
outside s x = go (case (leb s.low x)) (case (leb x s.high))
  where
    go : (leb s.low x ≡ true) ⊎ (leb s.low x ≡ false) → (leb x s.high ≡ true) ⊎ (leb x s.high ≡ false)
        → not (within s x) ≡ (ltb x s.low || ltb s.high x)
    go (inl p) (inl q) = rw (p, q, le-ltb x s.low (leb-true _ _ p), le-ltb s.high x (leb-true _ _ q))
    go (inl p) (inr q) = rw (p, q, le-ltb x s.low (leb-true _ _ p), lt-ltb s.high x (leb-false _ _ q))
    go (inr p) q = rw (p, lt-ltb x s.low (leb-false _ _ p))

-- the two parts together
parts_is : (b s : Range) (x : ℕ) → (within (below b s) x || within (above b s) x) ≡ (within b x && not (within s x))
parts_is b s x =
    ap₂ ◌||◌ (below_is b s x) (above_is b s x)
    ∙ sym (and-or_distrib_left (within b x) (ltb x s.low) (ltb s.high x))
    ∙ ap (within b x &&◌) (sym (outside s x))

rest_any : (k : ℕ) (r : Range) (ps : List (Row Range k)) (x : Row ℕ (suc k))
    → any (inside (suc k)) (map (λ p. (r, p)) ps) x ≡ (within r x.0 && any (inside k) ps x.1)
rest_any k r [] x = sym (and-false (within r x.0))
rest_any k r (p ∷ ps) x =
    ap ((within r x.0 && inside k p x.1) ||◌) (rest_any k r ps x)
    ∙ sym (and-or_distrib_left (within r x.0) (inside k p x.1) (any (inside k) ps x.1))

-- the pieces of the cut are what is in b and not in s
pub cut_is : (k : ℕ) (b s : Row Range k) (x : Row ℕ k) → any (inside k) (cut k b s) x ≡ (inside k b x && not (inside k s x))
cut_is zero b s x = refl
cut_is (suc k) b s x =
    ap (λ (t : Bool). within (below b.0 s.0) x.0 && u || (within (above b.0 s.0) x.0 && u || t))
    (rest_any k (common b.0 s.0) (cut k b.1 s.1) x ∙ ap₂ ◌&&◌ (common_is b.0 s.0 x.0) (cut_is k b.1 s.1 x.1))
    ∙ table (within (below b.0 s.0) x.0) (within (above b.0 s.0) x.0) w v u t (parts_is b.0 s.0 x.0)
  where
    w : Bool
    w = within b.0 x.0

    v : Bool
    v = within s.0 x.0

    u : Bool
    u = inside k b.1 x.1

    t : Bool
    t = inside k s.1 x.1

    last : (w v u t : Bool) → ((w && not v && u) || (w && v && (u && not t))) ≡ (w && u && not (v && t))
    last false v u t = refl
    last true true true t = refl
    last true true false t = refl
    last true false true t = refl
    last true false false t = refl

    table : (p q w v u t : Bool) → (p || q) ≡ (w && not v) → (p && u || (q && u || w && v && (u && not t))) ≡ (w && u && not (v && t))
    table p q w v u t e =
        sym (or_assoc (p && u) (q && u) (w && v && (u && not t)))
        ∙ ap (◌|| w && v && (u && not t)) (sym (and-or_distrib_right p q u) ∙ ap (◌&& u) e)
        ∙ last w v u t

-- boxes with the same ranges are one
pub same_box_lem : (k : ℕ) (a b : Row Range k) → same_box k a b ≡ true → a ≡ b
same_box_lem zero a b e = refl
same_box_lem (suc k) a b e =
    let t = and_left (eqb a.0.low b.0.low && eqb a.0.high b.0.high) (same_box k a.1 b.1) e in
    paired
    (ends_are (eqb-true a.0.low b.0.low (and_left (eqb a.0.low b.0.low) (eqb a.0.high b.0.high) t)) (eqb-true a.0.high b.0.high (and_right (eqb a.0.low b.0.low) (eqb a.0.high b.0.high) t)))
    (same_box_lem k a.1 b.1 (and_right (eqb a.0.low b.0.low && eqb a.0.high b.0.high) (same_box k a.1 b.1) e))
