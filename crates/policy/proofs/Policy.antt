-- Lemmas 8 to 10 of 004, and what the tests of policy say in the words of the Definitions.
-- Assumes nothing.
use Rattle.std.specs.Prelude.{None, Option, Some}
use Prim.Native.Nat.{ℕ, suc, ◌+◌}
use native.Mathlib.Omega.{arith}
use mathlib.Core.Path.{◌≡◌, refl, sym, ◌∙◌, ap}
use mathlib.Core.Bool.{Bool, true, false, not, cond, ◌&&◌}
use mathlib.Core.List.{List, [], ◌∷◌, ◌++◌}
use lib.ListN.{length}
use Rattle.policy.specs.declared.header.Header.{Header}
use Rattle.policy.specs.declared.entry.Entry.{Entry}
use Rattle.policy.specs.Header.{Headers, among}
use Rattle.policy.specs.Least.{least}
use Rattle.policy.specs.Entry.{matches}
use Rattle.policy.specs.Policy.{catcher_from, catcher, Allowed, actions, uncaught, allowed, is_caught, missed, exceeds, Covering, Equivalent, Refines}
use Rattle.policy.proofs.Bool.{clash, not_false, and_intro}
use Rattle.policy.proofs.Least.{least_none, none_tells}

-- ---- one list after another

-- the first, or the second where the first is not caught
abbrev pub or_next : Allowed → Allowed → Allowed
or_next (actions a) b = actions a
or_next uncaught b = b

pub allowed_append : (p q : List Entry) (h : Header) → allowed (p ++ q) h ≡ or_next (allowed p h) (allowed q h)
allowed_append [] q h = refl
allowed_append (e ∷ p) q h = go (matches e h) (allowed_append p q h)
  where
    go : (m : Bool) → allowed (p ++ q) h ≡ or_next (allowed p h) (allowed q h)
        → cond m (actions e.actions) (allowed (p ++ q) h) ≡ or_next (cond m (actions e.actions) (allowed p h)) (allowed q h)
    go true i = refl
    go false i = i

pub missed_append : (p q : List Entry) (h : Header) → missed (p ++ q) h ≡ (missed p h && missed q h)
missed_append p q h = ap (λ (a : Allowed). not (is_caught a)) (allowed_append p q h) ∙ go (allowed p h) (allowed q h)
  where
    go : (a b : Allowed) → not (is_caught (or_next a b)) ≡ (not (is_caught a) && not (is_caught b))
    go (actions a) b = refl
    go uncaught b = refl

-- an entry in front catches what it matches
pub missed_cons : (e : Entry) (p : List Entry) (h : Header) → missed (e ∷ p) h ≡ (not (matches e h) && missed p h)
missed_cons e p h = go (matches e h)
  where
    go : (m : Bool) → not (is_caught (cond m (actions e.actions) (allowed p h))) ≡ (not m && missed p h)
    go true = refl
    go false = refl

-- ---- Definition 3: which entry catches a header

-- entry number i of p catches h: it matches h, and no entry before it does
pub record Catches (p : List Entry) (i : ℕ) (h : Header) : Type 0 where
  pub front : List Entry
  pub entry : Entry
  pub back : List Entry
  pub whole : p ≡ front ++ entry ∷ back
  pub place : length front ≡ i
  pub earlier : missed front h ≡ true
  pub matched : matches entry h ≡ true

further : (p : List Entry) (h : Header) (e : Entry) (i : ℕ) → matches e h ≡ false → Catches p i h → Catches (e ∷ p) (suc i) h
further p h e i m c = record {
  front = e ∷ c.front;
  entry = c.entry;
  back = c.back;
  whole = ap (e ∷◌) c.whole;
  place = ap suc c.place;
  earlier = missed_cons e c.front h ∙ and_intro (ap not m) c.earlier;
  matched = c.matched;
}

-- what `catcher` says: the entry's number, counted from n
pub caught_by : (n : ℕ) (p : List Entry) (h : Header) (j : ℕ) → catcher_from n p h ≡ Some j → (i : ℕ) × (j ≡ n + i) × Catches p i h
caught_by n [] h j e = absurd (let z : ◌≡◌ {A = ℕ} 0 1 = cc in omega arith)
caught_by n (e ∷ p) h j q = go (matches e h) refl q (caught_by (n + 1) p h j)
  where
    up : (n i : ℕ) → n + 1 + i ≡ n + suc i
    up n i = omega arith

    here : (n j : ℕ) → n ≡ j → j ≡ n + 0
    here n j e = omega arith

    go : (m : Bool) → matches e h ≡ m → cond m (Some n) (catcher_from (n + 1) p h) ≡ Some j
        → (catcher_from (n + 1) p h ≡ Some j → (i : ℕ) × (j ≡ n + 1 + i) × Catches p i h) → (i : ℕ) × (j ≡ n + i) × Catches (e ∷ p) i h
    go true m q ih = (0, here n j (cc), record { front = []; entry = e; back = p; whole = refl; place = refl; earlier = refl; matched = m })
    go false m q ih = let c = ih q in (suc c.0, c.1 ∙ up n c.0, further p h e c.0 m c.2)

pub uncaught_by : (n : ℕ) (p : List Entry) (h : Header) → catcher_from n p h ≡ None → missed p h ≡ true
uncaught_by n [] h q = refl
uncaught_by n (e ∷ p) h q = missed_cons e p h ∙ go (matches e h) q (uncaught_by (n + 1) p h)
  where
    go : (m : Bool) → cond m (Some n) (catcher_from (n + 1) p h) ≡ None → (catcher_from (n + 1) p h ≡ None → missed p h ≡ true) → (not m && missed p h) ≡ true
    go true q ih = absurd (let z : ◌≡◌ {A = ℕ} 0 1 = cc in omega arith)
    go false q ih = ih q

pub uncaught_when : (n : ℕ) (p : List Entry) (h : Header) → missed p h ≡ true → catcher_from n p h ≡ None
uncaught_when n [] h q = refl
uncaught_when n (e ∷ p) h q = go (matches e h) (sym (missed_cons e p h) ∙ q) (uncaught_when (n + 1) p h)
  where
    go : (m : Bool) → (not m && missed p h) ≡ true → (missed p h ≡ true → catcher_from (n + 1) p h ≡ None) → cond m (Some n) (catcher_from (n + 1) p h) ≡ None
    go true q ih = clash q refl
    go false q ih = ih q

-- Definition 4 goes by Definition 3
pub catches_allows : (p : List Entry) (i : ℕ) (h : Header) (c : Catches p i h) → allowed p h ≡ actions c.entry.actions
catches_allows p i h c =
    ap (λ (l : List Entry). allowed l h) c.whole
    ∙ allowed_append c.front (c.entry ∷ c.back) h
    ∙ front (allowed c.front h) c.earlier
    ∙ ap (λ (m : Bool). cond m (actions c.entry.actions) (allowed c.back h)) c.matched
  where
    front : (a : Allowed) → not (is_caught a) ≡ true → or_next a (allowed (c.entry ∷ c.back) h) ≡ allowed (c.entry ∷ c.back) h
    front (actions a) q = clash q refl
    front uncaught q = refl

-- ---- Lemma 8: a covering list has an entry that catches the header

pub lemma8 : (hs : Headers) (p : List Entry) → Covering hs p → (h : Header) → among hs h ≡ true → (i : ℕ) × Catches p i h
lemma8 hs p c h a = go (catcher p h) refl
  where
    go : (r : Option ℕ) → catcher p h ≡ r → (i : ℕ) × Catches p i h
    go (Some j) e = let t = caught_by 0 p h j e in (t.0, t.2)
    go None e = clash (uncaught_by 0 p h e) (ap not (c h a))

-- ---- Lemma 9: an entry that does not catch the header can go

pub lemma9 : (front : List Entry) (e : Entry) (back : List Entry) (h : Header) → (missed front h && matches e h) ≡ false
    → allowed (front ++ back) h ≡ allowed (front ++ e ∷ back) h
lemma9 front e back h n = allowed_append front back h ∙ go (allowed front h) (matches e h) n ∙ sym (allowed_append front (e ∷ back) h)
  where
    go : (a : Allowed) (m : Bool) → (not (is_caught a) && m) ≡ false → or_next a (allowed back h) ≡ or_next a (cond m (actions e.actions) (allowed back h))
    go (actions a) m n = refl
    go uncaught true n = clash refl n
    go uncaught false n = refl

-- ---- Lemma 10: an entry that catches no header can go, and another one after it

pub lemma10 : (hs : Headers) (front : List Entry) (e : Entry) (back : List Entry)
    → ((h : Header) → among hs h ≡ true → (missed front h && matches e h) ≡ false) → Equivalent hs (front ++ back) (front ++ e ∷ back)
lemma10 hs front e back n h a = lemma9 front e back h (n h a)

pub equivalent_trans : (hs : Headers) (p q r : List Entry) → Equivalent hs p q → Equivalent hs q r → Equivalent hs p r
equivalent_trans hs p q r f g h a = f h a ∙ g h a

-- ---- the tests by `least` and the Definitions

-- no header is missed exactly if the list is covering
pub covering_by : (hs : Headers) (p : List Entry) → least hs (missed p) ≡ None → Covering hs p
covering_by hs p e h a = not_false (none_tells hs (missed p) e h a)

pub covering_none : (hs : Headers) (p : List Entry) → Covering hs p → least hs (missed p) ≡ None
covering_none hs p c = least_none hs (missed p) λ h a. ap not (c h a)

-- no header is allowed more by p than by q exactly if p refines q
pub refines_by : (hs : Headers) (p q : List Entry) → least hs (exceeds p q) ≡ None → Refines hs p q
refines_by hs p q e h a = not_false (none_tells hs (exceeds p q) e h a)

pub refines_none : (hs : Headers) (p q : List Entry) → Refines hs p q → least hs (exceeds p q) ≡ None
refines_none hs p q r = least_none hs (exceeds p q) λ h a. ap not (r h a)
