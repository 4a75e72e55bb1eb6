-- The laws of `least`: it is the one least header, it goes by the property's values, and the least of either of two properties is the lesser.
-- Assumes nothing.
use Rattle.std.specs.Prelude.{None, Option, Some}
use Prim.Native.Nat.{ℕ, zero, suc, ◌<◌}
use native.Mathlib.Omega.{arith}
use mathlib.Core.Path.{◌≡◌, refl, sym, ◌∙◌, ap, subst, fun_ext}
use mathlib.Core.Logic.{◌⊎◌, inl, inr}
use mathlib.Core.Bool.{Bool, true, false, not, cond, ◌&&◌, ◌||◌, or_assoc, or_comm}
use mathlib.Core.List.{List, [], ◌∷◌}
use lib.Dec.{ltb}
use borrow.Author.Tests.{ltb-true, lt-ltb}
use Rattle.policy.specs.declared.header.Header.{Header}
use Rattle.policy.specs.Row.{Row, precedes}
use Rattle.policy.specs.steps.Boxes.{fits}
use Rattle.policy.specs.Box.{Range, inside, highs_fit}
use Rattle.policy.specs.Header.{arity, fields, header, before, Box, lies, sizes, all_fit, Headers, in_any, among}
use Rattle.policy.specs.Found.{here}
use Rattle.policy.specs.steps.Findings.{lesser, minOver, minFrom}
use Rattle.policy.specs.Least.{first, scan, least}
use Rattle.policy.proofs.First.{First, first_is}
use Rattle.policy.proofs.Bool.{clash, is_false, and_intro, and_left, and_right, or_elim, or_left, or_right}
use Rattle.policy.proofs.Box.{any, le_high, in_first, in_rest}
use Rattle.policy.proofs.Order.{Order, earlier, equal, later, order, pre_cases, pre_trans, pre_irrefl}

-- ---- a scan finds at the least row

-- r is what f finds at the least row below the sizes at which it finds something
abbrev Best : (k : ℕ) → Row ℕ k → (Row ℕ k → Option Header) → Option Header → Type 0
Best k ns f (Some h) =
    (x : Row ℕ k)
    × (fits k ns x ≡ true)
    × (f x ≡ Some h)
    × ((y : Row ℕ k) → fits k ns y ≡ true → precedes k y x ≡ true → f y ≡ None)
Best k ns f None = (y : Row ℕ k) → fits k ns y ≡ true → f y ≡ None

-- one number more, the first
module _ (k : ℕ) (n : ℕ) (ns : Row ℕ k) (f : Row ℕ (suc k) → Option Header) where
  below : (y : Row ℕ (suc k)) → fits (suc k) (n, ns) y ≡ true → y.0 < n
  below y b = ltb-true y.0 n (and_left (ltb y.0 n) (fits k ns y.1) b)

  rest : (y : Row ℕ (suc k)) → fits (suc k) (n, ns) y ≡ true → fits k ns y.1 ≡ true
  rest y b = and_right (ltb y.0 n) (fits k ns y.1) b

  module _ (g : ℕ → Option Header) (each : (m : ℕ) → Best k ns (λ x. f (m, x)) (g m)) where
    none_at : (m : ℕ) → g m ≡ None → (x : Row ℕ k) → fits k ns x ≡ true → f (m, x) ≡ None
    none_at m e = subst (Best k ns (λ x. f (m, x))) e (each m)

    step : (r : Option Header) → First n g r → Best (suc k) (n, ns) f r
    step (Some h) p = ((m, b.0), and_intro (lt-ltb m n p.1) b.1, b.2, λ y v e. go y (rest y v) (pre_cases k y (m, b.0) e))
      where
        m : ℕ
        m = p.0

        b : Best k ns (λ x. f (m, x)) (Some h)
        b = subst (Best k ns (λ x. f (m, x))) p.2 (each m)

        go : (y : Row ℕ (suc k)) → fits k ns y.1 ≡ true → (y.0 < m) ⊎ ((y.0 ≡ m) × (precedes k y.1 b.0 ≡ true)) → f y ≡ None
        go y v (inl l) = none_at y.0 (p.3 y.0 l) y.1 v
        go y v (inr l) = ap (λ (a : ℕ). f (a, y.1)) l.0 ∙ b.3 y.1 v l.1
    step None p = λ y v. none_at y.0 (p y.0 (below y v)) y.1 (rest y v)

scan_is : (k : ℕ) (ns : Row ℕ k) (f : Row ℕ k → Option Header) → Best k ns f (scan k ns f)
unfolding scan
scan_is zero ns f = go (f tt) refl
  where
    go : (r : Option Header) → f tt ≡ r → Best zero ns f r
    go (Some h) e = (tt, refl, e, λ y v p. clash p refl)
    go None e = λ y v. e
scan_is (suc k) ns f =
    step k ns.0 ns.1 f (λ m. scan k ns.1 λ x. f (m, x)) (λ m. scan_is k ns.1 λ x. f (m, x))
    (first ns.0 λ m. scan k ns.1 λ x. f (m, x)) (first_is ns.0 λ m. scan k ns.1 λ x. f (m, x))

-- ---- the headers of a set fit their widths

pub inside_fits : (k : ℕ) (ns : Row ℕ k) (b : Row Range k) (x : Row ℕ k) → highs_fit k ns b ≡ true → inside k b x ≡ true → fits k ns x ≡ true
inside_fits zero ns b x f i = refl
inside_fits (suc k) ns b x f i =
    let l = ltb-true b.0.high ns.0 (and_left (ltb b.0.high ns.0) (highs_fit k ns.1 b.1) f) in
    let m = le_high b.0 x.0 (in_first k b x i) in
    and_intro (lt-ltb x.0 ns.0 (omega (arith, l, m)))
    (inside_fits k ns.1 b.1 x.1 (and_right (ltb b.0.high ns.0) (highs_fit k ns.1 b.1) f) (in_rest k b x i))

any_fits : (bs : List Box) (h : Header) → all_fit bs ≡ true → in_any bs h ≡ true → fits arity sizes (fields h) ≡ true
any_fits [] h f i = clash i refl
any_fits (b ∷ bs) h f i = go (any_fits bs h (and_right (highs_fit arity sizes b) (all_fit bs) f)) (or_elim (lies b h) (in_any bs h) i)
  where
    go : (in_any bs h ≡ true → fits arity sizes (fields h) ≡ true) → (lies b h ≡ true) ⊎ (in_any bs h ≡ true) → fits arity sizes (fields h) ≡ true
    go ih (inl p) = inside_fits arity sizes b (fields h) (and_left (highs_fit arity sizes b) (all_fit bs) f) p
    go ih (inr p) = ih p

pub among_fits : (hs : Headers) (h : Header) → among hs h ≡ true → fits arity sizes (fields h) ≡ true
among_fits hs h a = any_fits hs.boxes h hs.fit a

-- ---- the least header with a property

-- r is the least header with the property
abbrev pub IsLeast : (Header → Bool) → Option Header → Type 0
IsLeast P (Some h) = (P h ≡ true) × ((g : Header) → before g h ≡ true → P g ≡ false)
IsLeast P None = (g : Header) → P g ≡ false

-- there is but one
pub unique : (P : Header → Bool) (r s : Option Header) → IsLeast P r → IsLeast P s → r ≡ s
unique P (Some h) (Some g) p q = go (order arity (fields h) (fields g))
  where
    go : Order arity (fields h) (fields g) → Some h ≡ Some g
    go (earlier e) = clash p.0 (q.1 h e)
    go (equal e) = ap (λ (x : Row ℕ arity). Some (header x)) e
    go (later e) = clash q.0 (p.1 g e)
unique P (Some h) None p q = clash p.0 (q h)
unique P None (Some g) p q = clash q.0 (p g)
unique P None None p q = refl

pub least_is : (hs : Headers) (P : Header → Bool) → IsLeast (λ h. among hs h && P h) (least hs P)
unfolding least
least_is hs P = go (scan arity sizes λ x. here Q (header x)) (scan_is arity sizes λ x. here Q (header x))
  where
    Q : Header → Bool
    Q h = among hs h && P h

    absent : (h : Header) → here Q h ≡ None → Q h ≡ false
    absent h e = at (Q h) e
      where
        at : (b : Bool) → cond b (Some h) None ≡ None → b ≡ false
        at true e = absurd (let z : ◌≡◌ {A = ℕ} 0 1 = cc in omega arith)
        at false e = refl

    present : (h g : Header) → here Q h ≡ Some g → (h ≡ g) × (Q h ≡ true)
    present h g e = at (Q h) e
      where
        at : (b : Bool) → cond b (Some h) None ≡ Some g → (h ≡ g) × (b ≡ true)
        at true e = (cc, refl)
        at false e = absurd (let z : ◌≡◌ {A = ℕ} 0 1 = cc in omega arith)

    outside : (g : Header) → (fits arity sizes (fields g) ≡ true → Q g ≡ false) → Q g ≡ false
    outside g f = is_false (Q g) λ q. clash q (f (among_fits hs g (and_left (among hs g) (P g) q)))

    go : (r : Option Header) → Best arity sizes (λ x. here Q (header x)) r → IsLeast Q r
    go (Some h) b =
        let at = present (header b.0) h b.2 in
        subst (λ (g : Header). IsLeast Q (Some g)) at.0
        (at.1, λ g e. outside g λ v. absent g (b.3 (fields g) v e))
    go None b = λ g. outside g λ v. absent g (b (fields g) v)

-- what is least is what `least` finds, and the other way round
pub least_by : (hs : Headers) (P : Header → Bool) (r : Option Header) → IsLeast (λ h. among hs h && P h) r → least hs P ≡ r
least_by hs P r i = unique (λ h. among hs h && P h) (least hs P) r (least_is hs P) i

pub least_tells : (hs : Headers) (P : Header → Bool) (r : Option Header) → least hs P ≡ r → IsLeast (λ h. among hs h && P h) r
least_tells hs P r e = subst (IsLeast (λ h. among hs h && P h)) e (least_is hs P)

module _ (hs : Headers) (P : Header → Bool) where
  both_false : (g : Header) → (among hs g ≡ true → P g ≡ false) → (among hs g && P g) ≡ false
  both_false g f = is_false (among hs g && P g) λ b. clash (and_right (among hs g) (P g) b) (f (and_left (among hs g) (P g) b))

  -- a header of the set with the property, and no lesser one with it
  pub least_at : (h : Header) → among hs h ≡ true → P h ≡ true → ((g : Header) → among hs g ≡ true → before g h ≡ true → P g ≡ false) → least hs P ≡ Some h
  least_at h a p l = least_by hs P (Some h) (and_intro a p, λ g e. both_false g λ b. l g b e)

  -- none has the property
  pub least_none : ((g : Header) → among hs g ≡ true → P g ≡ false) → least hs P ≡ None
  least_none l = least_by hs P None λ g. both_false g (l g)

  -- and the other way round
  pub at_tells : (h : Header) → least hs P ≡ Some h
      → (among hs h ≡ true) × (P h ≡ true) × ((g : Header) → among hs g ≡ true → before g h ≡ true → P g ≡ false)
  at_tells h e =
      let t = least_tells hs P (Some h) e in
      (and_left (among hs h) (P h) t.0, and_right (among hs h) (P h) t.0, λ g a b. is_false (P g) λ p. clash (and_intro a p) (t.1 g b))

  pub none_tells : least hs P ≡ None → (g : Header) → among hs g ≡ true → P g ≡ false
  none_tells e g a = is_false (P g) λ p. clash (and_intro a p) (least_tells hs P None e g)

-- ---- extensionality

-- two properties that agree on the set
pub agree : (hs : Headers) (P Q : Header → Bool) → ((h : Header) → among hs h ≡ true → P h ≡ Q h) → least hs P ≡ least hs Q
agree hs P Q f = least_by hs P (least hs Q) (subst (λ (R : Header → Bool). IsLeast R (least hs Q)) (sym both) (least_is hs Q))
  where
    one : (b p q : Bool) → (b ≡ true → p ≡ q) → (b && p) ≡ (b && q)
    one true p q g = g refl
    one false p q g = refl

    both : ◌≡◌ {A = Header → Bool} (λ h. among hs h && P h) (λ h. among hs h && Q h)
    both = fun_ext λ h. one (among hs h) (P h) (Q h) (f h)

-- ---- union

pub either : (P Q : Header → Bool) (r s : Option Header) → IsLeast P r → IsLeast Q s → IsLeast (λ h. P h || Q h) (lesser r s)
either P Q None s p q = go s q
  where
    neither : (g : Header) → Q g ≡ false → (P g || Q g) ≡ false
    neither g e = rw (p g, e)

    go : (s : Option Header) → IsLeast Q s → IsLeast (λ h. P h || Q h) s
    go (Some h) q = (or_right (P h) (Q h) q.0, λ g e. neither g (q.1 g e))
    go None q = λ g. neither g (q g)
either P Q (Some h) None p q = (or_left (P h) (Q h) p.0, λ g e. rw (p.1 g e, q g))
either P Q (Some h) (Some g) p q = go (before g h) refl
  where
    go : (b : Bool) → before g h ≡ b → IsLeast (λ h. P h || Q h) (cond b (Some g) (Some h))
    go true e =
        (or_right (P g) (Q g) q.0, λ x l. rw (p.1 x (pre_trans arity (fields x) (fields g) (fields h) l e), q.1 x l))
    go false e = (or_left (P h) (Q h) p.0, λ x l. rw (p.1 x l, other x l (order arity (fields h) (fields g))))
      where
        other : (x : Header) → before x h ≡ true → Order arity (fields h) (fields g) → Q x ≡ false
        other x l (earlier m) = q.1 x (pre_trans arity (fields x) (fields h) (fields g) l m)
        other x l (equal m) = q.1 x (subst (λ (r : Row ℕ arity). precedes arity (fields x) r ≡ true) m l)
        other x l (later m) = clash m e

pub union : (hs : Headers) (P Q : Header → Bool) → least hs (λ h. P h || Q h) ≡ lesser (least hs P) (least hs Q)
union hs P Q =
    least_by hs (λ h. P h || Q h) (lesser (least hs P) (least hs Q))
    (subst (λ (R : Header → Bool). IsLeast R (lesser (least hs P) (least hs Q))) (fun_ext λ h. spread (among hs h) (P h) (Q h))
    (either (λ h. among hs h && P h) (λ h. among hs h && Q h) (least hs P) (least hs Q) (least_is hs P) (least_is hs Q)))
  where
    spread : (a b c : Bool) → (a && b || a && c) ≡ (a && (b || c))
    spread true b c = refl
    spread false b c = refl

-- a property that holds where one of a list's does
pub over {ℓ} : (hs : Headers) {A : Type ℓ} (f : A → Header → Bool) (ps : List A) → least hs (any f ps) ≡ minOver (λ p. least hs (f p)) ps
over hs f [] = least_none hs (any f []) λ g a. refl
over hs f (p ∷ ps) = union hs (f p) (any f ps) ∙ ap (lesser (least hs (f p))) (over hs f ps)

-- the same beside another property
pub over-from {ℓ} : (hs : Headers) {A : Type ℓ} (f : A → Header → Bool) (ps : List A) (Q : Header → Bool)
    → least hs (λ h. any f ps h || Q h) ≡ minFrom (least hs Q) (λ p. least hs (f p)) ps
over-from hs f [] Q = refl
over-from hs f (p ∷ ps) Q =
    ap (least hs) (fun_ext λ h. or_assoc (f p h) (any f ps h) (Q h))
    ∙ union hs (f p) (λ h. any f ps h || Q h)
    ∙ ap (lesser (least hs (f p))) (over-from hs f ps Q)

-- ---- the lesser of findings

-- a property whose least header is the finding
From : Option Header → Header → Bool
From (Some h) g = not (before g h)
From None g = false

from_is : (r : Option Header) → IsLeast (From r) r
unfolding From
from_is (Some h) = (ap not (is_false (before h h) (pre_irrefl arity (fields h))), λ g e. ap not e)
from_is None = λ g. refl

pub lesser_assoc : (r s t : Option Header) → lesser (lesser r s) t ≡ lesser r (lesser s t)
lesser_assoc r s t =
    unique (λ h. From r h || (From s h || From t h)) (lesser (lesser r s) t) (lesser r (lesser s t))
    (subst (λ (P : Header → Bool). IsLeast P (lesser (lesser r s) t)) (fun_ext λ h. or_assoc (From r h) (From s h) (From t h))
    (either (λ h. From r h || From s h) (From t) (lesser r s) t (either (From r) (From s) r s (from_is r) (from_is s)) (from_is t)))
    (either (From r) (λ h. From s h || From t h) r (lesser s t) (from_is r) (either (From s) (From t) s t (from_is s) (from_is t)))

pub min-from {ℓ} : {A : Type ℓ} (z : Option Header) (f : A → Option Header) (ps : List A) → minFrom z f ps ≡ lesser (minOver f ps) z
min-from z f [] = refl
min-from z f (p ∷ ps) = ap (lesser (f p)) (min-from z f ps) ∙ sym (lesser_assoc (f p) (minOver f ps) z)

pub lesser_last : (r : Option Header) → lesser r None ≡ r
lesser_last (Some h) = refl
lesser_last None = refl

-- the order of the two does not matter, nor taking one twice
pub lesser_comm : (r s : Option Header) → lesser r s ≡ lesser s r
lesser_comm r s =
    unique (λ h. From r h || From s h) (lesser r s) (lesser s r)
    (either (From r) (From s) r s (from_is r) (from_is s))
    (subst (λ (P : Header → Bool). IsLeast P (lesser s r)) (fun_ext λ h. or_comm (From s h) (From r h)) (either (From s) (From r) s r (from_is s) (from_is r)))
