-- Ordered crossproducts of any number of policies: Lemmas 19 and 25 of 004, and what they allow.
-- Assumes nothing.
use Rattle.std.specs.Prelude.{None, Option, Some}
use Prim.Native.Nat.{ℕ, zero, suc, ◌+◌, ◌<◌, ◌≤◌}
use native.Mathlib.Omega.{arith}
use mathlib.Core.Path.{◌≡◌, refl, sym, ◌∙◌, ap, subst}
use mathlib.Core.Logic.{◌⊎◌, inl, inr}
use mathlib.Core.Bool.{Bool, true, false, not, cond}
use mathlib.Core.List.{List, [], ◌∷◌, map}
use lib.Bits.{and_self}
use lib.ListN.{length, get_or, length-append}
use lib.Seq.{get_or_at}
use Rattle.policy.specs.declared.header.Header.{Header}
use Rattle.policy.specs.declared.entry.Entry.{Entry}
use Rattle.policy.specs.Header.{Headers}
use Rattle.policy.specs.Entry.{matches, both}
use Rattle.policy.specs.Policy.{catcher_from, catcher, Allowed, actions, uncaught, allowed, is_caught, missed, Covering}
use Rattle.policy.proofs.Bool.{clash, is_false, not_true, and_intro, and_left, and_right}
use Rattle.policy.proofs.Policy.{missed_cons, Catches, caught_by, uncaught_by, catches_allows}
use Rattle.wire.specs.Lists.{empty_entry}
use Rattle.reconcile.specs.Crossproduct.{In, AllCovering, Tuple, IsTuple, entry_with, entry_of, entries_of, Crossproduct, Precedes, Extends, OrderedCrossproduct}
use Rattle.reconcile.specs.steps.Catching.{EachCatches}
use Rattle.reconcile.specs.Rules.{in_both, common_with, common_actions}
use Rattle.reconcile.proofs.Common.{common_caught, with_uncaught}
use Rattle.reconcile.proofs.Crossing.{both_is}

-- ---- one policy

same_number : (n i : ℕ) → Some n ≡ Some i → n ≡ i
same_number n i q = cc

-- the entry that catches is the first that matches
catcher_first : (n : ℕ) (p : List Entry) (h : Header) (i k : ℕ) → catcher_from n p h ≡ Some i → k < length p → matches (get_or p k empty_entry) h ≡ true → i ≤ n + k
catcher_first n [] h i k q l m = absurd (omega arith)
catcher_first n (e ∷ p) h i zero q l m = go (matches e h) m q
  where
    go : (b : Bool) → b ≡ true → cond b (Some n) (catcher_from (n + 1) p h) ≡ Some i → i ≤ n + 0
    go true m q = omega (arith, same_number n i q)
    go false m q = clash m refl
catcher_first n (e ∷ p) h i (suc k) q l m = go (matches e h) q (λ r. catcher_first (n + 1) p h i k r (omega arith) m)
  where
    go : (b : Bool) → cond b (Some n) (catcher_from (n + 1) p h) ≡ Some i → (catcher_from (n + 1) p h ≡ Some i → i ≤ n + 1 + k) → i ≤ n + suc k
    go true q ih = omega (arith, same_number n i q)
    go false q ih = omega (arith, ih q)

-- entry i catches h
record CatchesAt (p : List Entry) (h : Header) (i : ℕ) : Type 0 where
  pub below : i < length p
  pub matched : matches (get_or p i empty_entry) h ≡ true
  pub allows : allowed p h ≡ actions (get_or p i empty_entry).actions

catcher_at : (p : List Entry) (h : Header) (i : ℕ) → catcher p h ≡ Some i → CatchesAt p h i
catcher_at p h i q = record {
  below = omega (arith, c.1, c.2.place, ap length c.2.whole, length-append c.2.front (c.2.entry ∷ c.2.back));
  matched = ap (λ (e : Entry). matches e h) is ∙ c.2.matched;
  allows = catches_allows p c.0 h c.2 ∙ ap (λ (e : Entry). actions e.actions) (sym is);
}
  where
    c : (j : ℕ) × (i ≡ 0 + j) × Catches p j h
    c = caught_by 0 p h i q

    is : get_or p i empty_entry ≡ c.2.entry
    is = ap (λ (l : List Entry). get_or l i empty_entry) c.2.whole ∙ get_or_at c.2.front c.2.entry c.2.back empty_entry i (omega (arith, c.1, c.2.place))

-- where none catches, none matches
missed_each : (p : List Entry) (h : Header) (k : ℕ) → k < length p → missed p h ≡ true → matches (get_or p k empty_entry) h ≡ false
missed_each [] h k l u = absurd (omega arith)
missed_each (e ∷ p) h zero l u = not_true (and_left (not (matches e h)) (missed p h) (sym (missed_cons e p h) ∙ u))
missed_each (e ∷ p) h (suc k) l u = missed_each p h k (omega arith) (and_right (not (matches e h)) (missed p h) (sym (missed_cons e p h) ∙ u))

missed_uncaught : (a : Allowed) → not (is_caught a) ≡ true → a ≡ uncaught
missed_uncaught (actions a) u = clash u refl
missed_uncaught uncaught u = refl

-- ---- tuples

-- each entry of the tuple matches the header
abbrev EachMatches : List (List Entry) → Tuple → Header → Type 0
EachMatches [] t h = Unit {0}
EachMatches (p ∷ ps) [] h = ⊥
EachMatches (p ∷ ps) (i ∷ t) h = (matches (get_or p i empty_entry) h ≡ true) × EachMatches ps t h

with_each : (e : Entry) (ps : List (List Entry)) (t : Tuple) (h : Header) → IsTuple ps t → matches (entry_with e ps t) h ≡ true → (matches e h ≡ true) × EachMatches ps t h
with_each e [] t h v m = (m, tt)
with_each e (p ∷ ps) [] h v m = absurd v
with_each e (p ∷ ps) (i ∷ t) h v m =
    let r = with_each (both e (get_or p i empty_entry)) ps t h v.1 m in
    let b = sym (both_is e (get_or p i empty_entry) h) ∙ r.0 in
    (and_left (matches e h) (matches (get_or p i empty_entry) h) b, (and_right (matches e h) (matches (get_or p i empty_entry) h) b, r.1))

each_with : (e : Entry) (ps : List (List Entry)) (t : Tuple) (h : Header) → matches e h ≡ true → EachMatches ps t h → matches (entry_with e ps t) h ≡ true
each_with e [] t h m r = m
each_with e (p ∷ ps) [] h m r = absurd r
each_with e (p ∷ ps) (i ∷ t) h m r = each_with (both e (get_or p i empty_entry)) ps t h (both_is e (get_or p i empty_entry) h ∙ and_intro m r.0) r.1

-- the tuple's entry matches the header exactly if each of the tuple's entries does
of_each : (ps : List (List Entry)) (t : Tuple) (h : Header) → IsTuple ps t → matches (entry_of ps t) h ≡ true → EachMatches ps t h
of_each [] t h v m = tt
of_each (p ∷ ps) [] h v m = absurd v
of_each (p ∷ ps) (i ∷ t) h v m = with_each (get_or p i empty_entry) ps t h v.1 m

each_of : (p : List Entry) (ps : List (List Entry)) (t : Tuple) (h : Header) → EachMatches (p ∷ ps) t h → matches (entry_of (p ∷ ps) t) h ≡ true
each_of p ps [] h r = absurd r
each_of p ps (i ∷ t) h r = each_with (get_or p i empty_entry) ps t h r.0 r.1

-- the tuple of the entries that catch the header is one of the set, matches it, and precedes every other that does
catching_tuple : (ps : List (List Entry)) (t : Tuple) (h : Header) → EachCatches ps t h → IsTuple ps t
catching_tuple [] [] h c = tt
catching_tuple [] (i ∷ t) h c = absurd c
catching_tuple (p ∷ ps) [] h c = absurd c
catching_tuple (p ∷ ps) (i ∷ t) h c = ((catcher_at p h i c.0).below, catching_tuple ps t h c.1)

catching_matches : (ps : List (List Entry)) (t : Tuple) (h : Header) → EachCatches ps t h → EachMatches ps t h
catching_matches [] t h c = tt
catching_matches (p ∷ ps) [] h c = absurd c
catching_matches (p ∷ ps) (i ∷ t) h c = ((catcher_at p h i c.0).matched, catching_matches ps t h c.1)

catching_precedes : (ps : List (List Entry)) (t s : Tuple) (h : Header) → EachCatches ps t h → IsTuple ps s → EachMatches ps s h → Precedes t s
catching_precedes [] [] s h c v m = tt
catching_precedes [] (i ∷ t) s h c v m = absurd c
catching_precedes (p ∷ ps) [] s h c v m = tt
catching_precedes (p ∷ ps) (i ∷ t) [] h c v m = absurd v
catching_precedes (p ∷ ps) (i ∷ t) (k ∷ s) h c v m =
    (plain i k (catcher_first 0 p h i k c.0 v.0 m.0), catching_precedes ps t s h c.1 v.1 m.1)
  where
    plain : (i k : ℕ) → i ≤ 0 + k → i ≤ k
    plain i k l = omega arith

-- and what it allows is what is common
with_allows : (e : Entry) (ps : List (List Entry)) (t : Tuple) (h : Header) → EachCatches ps t h
    → common_with (actions e.actions) ps h ≡ actions (entry_with e ps t).actions
with_allows e [] t h c = refl
with_allows e (p ∷ ps) [] h c = absurd c
with_allows e (p ∷ ps) (i ∷ t) h c =
    ap (λ (a : Allowed). common_with (in_both (actions e.actions) a) ps h) (catcher_at p h i c.0).allows
    ∙ with_allows (both e (get_or p i empty_entry)) ps t h c.1

catching_allows : (p : List Entry) (ps : List (List Entry)) (t : Tuple) (h : Header) → EachCatches (p ∷ ps) t h
    → common_actions (p ∷ ps) h ≡ actions (entry_of (p ∷ ps) t).actions
catching_allows p ps [] h c = absurd c
catching_allows p ps (i ∷ t) h c =
    ap (λ (a : Allowed). common_with a ps h) (catcher_at p h i c.0).allows ∙ with_allows (get_or p i empty_entry) ps t h c.1

-- either every policy catches the header, or one does not: then nothing is common, and no tuple's entries all match
data Case (ps : List (List Entry)) (h : Header) : Type 0 where
  each : (t : Tuple) → EachCatches ps t h → Case ps h
  lacks : ((a : Allowed) → common_with a ps h ≡ uncaught) → ((t : Tuple) → IsTuple ps t → EachMatches ps t h → ⊥) → Case ps h

cases : (ps : List (List Entry)) (h : Header) → Case ps h
cases [] h = each [] tt
cases (p ∷ ps) h = go (catcher p h) refl (cases ps h)
  where
    both_uncaught : (a : Allowed) → in_both a uncaught ≡ uncaught
    both_uncaught (actions a) = refl
    both_uncaught uncaught = refl

    first : missed p h ≡ true → (t : Tuple) → IsTuple (p ∷ ps) t → EachMatches (p ∷ ps) t h → ⊥
    first u [] v m = v
    first u (k ∷ t) v m = clash m.0 (missed_each p h k v.0 u)

    later : ((t : Tuple) → IsTuple ps t → EachMatches ps t h → ⊥) → (t : Tuple) → IsTuple (p ∷ ps) t → EachMatches (p ∷ ps) t h → ⊥
    later f [] v m = v
    later f (k ∷ t) v m = f t v.1 m.1

    go : (r : Option ℕ) → catcher p h ≡ r → Case ps h → Case (p ∷ ps) h
    go (Some i) q (each t c) = each (i ∷ t) (q, c)
    go (Some i) q (lacks n f) = lacks (λ a. n (in_both a (allowed p h))) (later f)
    go None q d =
        let u = uncaught_by 0 p h q in
        lacks (λ a. ap (λ (x : Allowed). common_with (in_both a x) ps h) (missed_uncaught (allowed p h) u) ∙ ap (λ (x : Allowed). common_with x ps h) (both_uncaught a) ∙ with_uncaught ps h)
        (first u)

lacks_common : (p : List Entry) (ps : List (List Entry)) (h : Header) → ((a : Allowed) → common_with a (p ∷ ps) h ≡ uncaught) → common_actions (p ∷ ps) h ≡ uncaught
lacks_common p ps h f = ap (λ (a : Allowed). common_with a ps h) (sym (both_self (allowed p h))) ∙ f (allowed p h)
  where
    both_self : (a : Allowed) → in_both a a ≡ a
    both_self (actions a) = ap actions (and_self a)
    both_self uncaught = refl

-- ---- lists of tuples

-- a tuple that precedes every other whose entry matches is the one whose entry catches
module _ (f : Tuple → Entry) (h : Header) (t : Tuple) where
  record First (ts : List Tuple) (n : ℕ) : Type 0 where
    pub place : ℕ
    pub catches : catcher_from n (map f ts) h ≡ Some (n + place)
    pub there : get_or ts place [] ≡ t
    pub allows : allowed (map f ts) h ≡ actions (f t).actions

  first_in : matches (f t) h ≡ true → (ts : List Tuple) (n : ℕ) → In t ts → Extends ts
      → ((s : Tuple) → In s ts → matches (f s) h ≡ true → Precedes t s) → First ts n
  first_in m [] n i o p = absurd i
  first_in m (s ∷ ts) n i o p = go (λ j. first_in m ts (n + 1) j o.1 (λ r k. p r (inr k))) (matches (f s) h) refl i
    where
      up : (n k : ℕ) → n + 1 + k ≡ n + suc k
      up n k = omega arith

      plain : (n : ℕ) → n ≡ n + 0
      plain n = omega arith

      go : (In t ts → First ts (n + 1)) → (b : Bool) → matches (f s) h ≡ b → (t ≡ s) ⊎ In t ts → First (s ∷ ts) n
      go ih true q (inl e) = record {
        place = 0;
        catches = ap (λ (b : Bool). cond b (Some n) (catcher_from (n + 1) (map f ts) h)) q ∙ ap Some (plain n);
        there = sym e;
        allows = ap (λ (b : Bool). cond b (actions (f s).actions) (allowed (map f ts) h)) q ∙ ap (λ (r : Tuple). actions (f r).actions) (sym e);
      }
      go ih true q (inr j) = absurd (o.0 t j (p s (inl refl) q))
      go ih false q (inl e) = clash (ap (λ (r : Tuple). matches (f r) h) (sym e) ∙ m) q
      go ih false q (inr j) =
          let r = ih j in
          record {
            place = suc r.place;
            catches = ap (λ (b : Bool). cond b (Some n) (catcher_from (n + 1) (map f ts) h)) q ∙ r.catches ∙ ap Some (up n r.place);
            there = r.there;
            allows = ap (λ (b : Bool). cond b (actions (f s).actions) (allowed (map f ts) h)) q ∙ r.allows;
          }

none_in : (f : Tuple → Entry) (h : Header) (ts : List Tuple) (n : ℕ) → ((s : Tuple) → In s ts → matches (f s) h ≡ false)
    → (catcher_from n (map f ts) h ≡ None) × (allowed (map f ts) h ≡ uncaught)
none_in f h [] n g = (refl, refl)
none_in f h (s ∷ ts) n g =
    let r = none_in f h ts (n + 1) (λ r i. g r (inr i)) in (
      ap (λ (b : Bool). cond b (Some n) (catcher_from (n + 1) (map f ts) h)) (g s (inl refl)) ∙ r.0,
      ap (λ (b : Bool). cond b (actions (f s).actions) (allowed (map f ts) h)) (g s (inl refl)) ∙ r.1,
    )

caught_in : (f : Tuple → Entry) (h : Header) (t : Tuple) → matches (f t) h ≡ true → (ts : List Tuple) → In t ts → is_caught (allowed (map f ts) h) ≡ true
caught_in f h t m [] i = absurd i
caught_in f h t m (s ∷ ts) i = go (matches (f s) h) refl i (caught_in f h t m ts)
  where
    go : (b : Bool) → matches (f s) h ≡ b → (t ≡ s) ⊎ In t ts → (In t ts → is_caught (allowed (map f ts) h) ≡ true)
        → is_caught (cond b (actions (f s).actions) (allowed (map f ts) h)) ≡ true
    go true q i ih = refl
    go false q (inl e) ih = clash (ap (λ (r : Tuple). matches (f r) h) (sym e) ∙ m) q
    go false q (inr j) ih = ih j

-- ---- an ordered crossproduct of the policies p, ps

module _ (p : List Entry) (ps : List (List Entry)) (ts : List Tuple) (x : OrderedCrossproduct (p ∷ ps) ts) where
  at_first : (h : Header) (t : Tuple) → EachCatches (p ∷ ps) t h → First (entry_of (p ∷ ps)) h t ts 0
  at_first h t c =
      first_in (entry_of (p ∷ ps)) h t (each_of p ps t h (catching_matches (p ∷ ps) t h c)) ts 0
      (x.crossproduct.every t (catching_tuple (p ∷ ps) t h c)) x.ordered
      (λ s i m. let v = x.crossproduct.only s i in catching_precedes (p ∷ ps) t s h c v (of_each (p ∷ ps) s h v m))

  at_none : (h : Header) → ((t : Tuple) → IsTuple (p ∷ ps) t → EachMatches (p ∷ ps) t h → ⊥)
      → (catcher (entries_of (p ∷ ps) ts) h ≡ None) × (allowed (entries_of (p ∷ ps) ts) h ≡ uncaught)
  at_none h f = none_in (entry_of (p ∷ ps)) h ts 0 λ s i.
      let v = x.crossproduct.only s i in
      is_false (matches (entry_of (p ∷ ps) s) h) λ m. f s v (of_each (p ∷ ps) s h v m)

  -- Lemma 25: the entries of the tuple whose entry catches the header catch it in their policies
  pub lemma25 : (h : Header) (n : ℕ) → catcher (entries_of (p ∷ ps) ts) h ≡ Some n → EachCatches (p ∷ ps) (get_or ts n []) h
  lemma25 h n q = go (cases (p ∷ ps) h)
    where
      go : Case (p ∷ ps) h → EachCatches (p ∷ ps) (get_or ts n []) h
      go (each t c) =
          let r = at_first h t c in
          let e : n ≡ r.place = omega (arith, same_number (0 + r.place) n (sym r.catches ∙ q)) in
          subst (λ (s : Tuple). EachCatches (p ∷ ps) s h) (sym r.there ∙ ap (λ (k : ℕ). get_or ts k []) (sym e)) c
      go (lacks a f) = absurd (let y : Some n ≡ None = sym q ∙ (at_none h f).0 in let z : ◌≡◌ {A = ℕ} 0 1 = cc in omega arith)

  -- what it allows a header is what the policies allow it in common
  pub ordered_is : (h : Header) → allowed (entries_of (p ∷ ps) ts) h ≡ common_actions (p ∷ ps) h
  ordered_is h = go (cases (p ∷ ps) h)
    where
      go : Case (p ∷ ps) h → allowed (entries_of (p ∷ ps) ts) h ≡ common_actions (p ∷ ps) h
      go (each t c) = (at_first h t c).allows ∙ sym (catching_allows p ps t h c)
      go (lacks a f) = (at_none h f).1 ∙ sym (lacks_common p ps h a)

-- Lemma 19: any crossproduct of covering lists is covering
pub lemma19 : (hs : Headers) (p : List Entry) (ps : List (List Entry)) (ts : List Tuple) → Crossproduct (p ∷ ps) ts
    → AllCovering hs (p ∷ ps) → Covering hs (entries_of (p ∷ ps) ts)
lemma19 hs p ps ts x f h a = go (cases (p ∷ ps) h)
  where
    go : Case (p ∷ ps) h → is_caught (allowed (entries_of (p ∷ ps) ts) h) ≡ true
    go (each t c) = caught_in (entry_of (p ∷ ps)) h t (each_of p ps t h (catching_matches (p ∷ ps) t h c)) ts (x.every t (catching_tuple (p ∷ ps) t h c))
    go (lacks n g) = clash (common_caught h p ps λ q i. f q i h a) (ap is_caught (lacks_common p ps h n))
