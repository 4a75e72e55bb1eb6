-- The common actions of a header: part of what each list allows, all that is part of it in each, and action by action.
-- Assumes nothing.
use Prim.Native.Nat.{ℕ}
use mathlib.Core.Path.{◌≡◌, refl, sym, ◌∙◌, ap, subst}
use mathlib.Core.Logic.{inl, inr}
use mathlib.Core.Bool.{true, false, ◌&&◌, and-true, and-false, and_assoc}
use mathlib.Core.List.{List, [], ◌∷◌}
use lib.Bits.{bit_and, and_self}
use borrow.Author.Tests.{eqb-true, eq-eqb}
use Rattle.policy.specs.declared.header.Header.{Header}
use Rattle.policy.specs.declared.entry.Entry.{Entry}
use Rattle.policy.specs.Header.{Headers, among}
use Rattle.policy.specs.Actions.{has}
use Rattle.policy.specs.Policy.{Allowed, actions, uncaught, allowed, is_caught, at_most, Refines}
use Rattle.policy.proofs.Bool.{clash, and_intro, and_left, and_right}
use Rattle.policy.proofs.ActionSets.{has_both, has_none, none_empty, part_both, part_first, part_second}
use Rattle.reconcile.specs.Crossproduct.{In, Reconciles}
use Rattle.reconcile.specs.Rules.{same, is_empty, in_both, common_with, common_actions, permits, all_permit}

-- ---- the same is allowed

pub same_self : (a : Allowed) → same a a ≡ true
same_self (actions a) = eq-eqb a a refl
same_self uncaught = refl

pub same_tells : (a b : Allowed) → same a b ≡ true → a ≡ b
same_tells (actions a) (actions b) e = ap actions (eqb-true a b e)
same_tells (actions a) uncaught e = clash e refl
same_tells uncaught (actions b) e = clash e refl
same_tells uncaught uncaught e = refl

pub same_by : (a b : Allowed) → a ≡ b → same a b ≡ true
same_by a b e = ap (same a) (sym e) ∙ same_self a

-- ---- parts

at_most_self : (a : Allowed) → at_most a a ≡ true
at_most_self (actions a) = eq-eqb (bit_and a a) a (and_self a)
at_most_self uncaught = refl

at_most_of_both : (a b c : Allowed) → at_most a (in_both b c) ≡ true → (at_most a b && at_most a c) ≡ true
at_most_of_both (actions a) (actions b) (actions c) e =
    let f = eqb-true (bit_and a (bit_and b c)) a e in
    and_intro (eq-eqb (bit_and a b) a (part_first a b c f)) (eq-eqb (bit_and a c) a (part_second a b c f))
at_most_of_both (actions a) (actions b) uncaught e = clash e refl
at_most_of_both (actions a) uncaught c e = clash e refl
at_most_of_both uncaught b c e = refl

at_most_in_both : (a b c : Allowed) → at_most a b ≡ true → at_most a c ≡ true → at_most a (in_both b c) ≡ true
at_most_in_both (actions a) (actions b) (actions c) p q =
    eq-eqb (bit_and a (bit_and b c)) a (part_both a b c (eqb-true (bit_and a b) a p) (eqb-true (bit_and a c) a q))
at_most_in_both (actions a) (actions b) uncaught p q = q
at_most_in_both (actions a) uncaught c p q = p
at_most_in_both uncaught b c p q = refl

module _ (x : Allowed) (h : Header) where
  with_first : (a : Allowed) (ps : List (List Entry)) → at_most x (common_with a ps h) ≡ true → at_most x a ≡ true
  with_first a [] e = e
  with_first a (p ∷ ps) e =
      and_left (at_most x a) (at_most x (allowed p h)) (at_most_of_both x a (allowed p h) (with_first (in_both a (allowed p h)) ps e))

  with_each : (a : Allowed) (ps : List (List Entry)) (q : List Entry) → In q ps → at_most x (common_with a ps h) ≡ true → at_most x (allowed q h) ≡ true
  with_each a [] q i e = absurd i
  with_each a (p ∷ ps) q (inl i) e =
      subst (λ (l : List Entry). at_most x (allowed l h) ≡ true) (sym i)
      (and_right (at_most x a) (at_most x (allowed p h)) (at_most_of_both x a (allowed p h) (with_first (in_both a (allowed p h)) ps e)))
  with_each a (p ∷ ps) q (inr i) e = with_each (in_both a (allowed p h)) ps q i e

  with_all : (a : Allowed) (ps : List (List Entry)) → at_most x a ≡ true → ((q : List Entry) → In q ps → at_most x (allowed q h) ≡ true)
      → at_most x (common_with a ps h) ≡ true
  with_all a [] e f = e
  with_all a (p ∷ ps) e f = with_all (in_both a (allowed p h)) ps (at_most_in_both x a (allowed p h) e (f p (inl refl))) (λ q i. f q (inr i))

  -- a part of the common actions is a part of what each list allows
  pub at_most_each : (ps : List (List Entry)) (q : List Entry) → In q ps → at_most x (common_actions ps h) ≡ true → at_most x (allowed q h) ≡ true
  at_most_each [] q i e = absurd i
  at_most_each (p ∷ ps) q (inl i) e = subst (λ (l : List Entry). at_most x (allowed l h) ≡ true) (sym i) (with_first (allowed p h) ps e)
  at_most_each (p ∷ ps) q (inr i) e = with_each (allowed p h) ps q i e

  -- and the other way round
  pub at_most_all : (p : List Entry) (ps : List (List Entry)) → ((q : List Entry) → In q (p ∷ ps) → at_most x (allowed q h) ≡ true)
      → at_most x (common_actions (p ∷ ps) h) ≡ true
  at_most_all p ps f = with_all (allowed p h) ps (f p (inl refl)) (λ q i. f q (inr i))

-- a list that allows each header the common actions refines all the lists (Theorem 26), and every list that refines them all refines it (27)
module _ (hs : Headers) (ps : List (List Entry)) (r : List Entry) (e : (h : Header) → among hs h ≡ true → allowed r h ≡ common_actions ps h) where
  pub common_reconciles : Reconciles hs ps r
  common_reconciles q i h a =
      at_most_each (allowed r h) h ps q i (subst (λ (x : Allowed). at_most (allowed r h) x ≡ true) (e h a) (at_most_self (allowed r h)))

pub common_widest : (hs : Headers) (p : List Entry) (ps : List (List Entry)) (r : List Entry)
    → ((h : Header) → among hs h ≡ true → allowed r h ≡ common_actions (p ∷ ps) h) → (q : List Entry) → Reconciles hs (p ∷ ps) q → Refines hs q r
common_widest hs p ps r e q f h a =
    subst (λ (x : Allowed). at_most (allowed q h) x ≡ true) (sym (e h a)) (at_most_all (allowed q h) h p ps λ l i. f l i h a)

-- ---- where all the lists catch the header

both_caught : (a b : Allowed) → is_caught a ≡ true → is_caught b ≡ true → is_caught (in_both a b) ≡ true
both_caught (actions a) (actions b) x y = refl
both_caught (actions a) uncaught x y = y
both_caught uncaught b x y = x

with_caught : (h : Header) (a : Allowed) (ps : List (List Entry)) → is_caught a ≡ true → ((q : List Entry) → In q ps → is_caught (allowed q h) ≡ true)
    → is_caught (common_with a ps h) ≡ true
with_caught h a [] x f = x
with_caught h a (p ∷ ps) x f = with_caught h (in_both a (allowed p h)) ps (both_caught a (allowed p h) x (f p (inl refl))) (λ q i. f q (inr i))

pub common_caught : (h : Header) (p : List Entry) (ps : List (List Entry)) → ((q : List Entry) → In q (p ∷ ps) → is_caught (allowed q h) ≡ true)
    → is_caught (common_actions (p ∷ ps) h) ≡ true
common_caught h p ps f = with_caught h (allowed p h) ps (f p (inl refl)) (λ q i. f q (inr i))

-- where one does not, nothing is common
pub with_uncaught : (ps : List (List Entry)) (h : Header) → common_with uncaught ps h ≡ uncaught
with_uncaught [] h = refl
with_uncaught (p ∷ ps) h = with_uncaught ps h

-- ---- action by action

permits_both : (k : ℕ) (a b : Allowed) → permits k (in_both a b) ≡ (permits k a && permits k b)
permits_both k (actions a) (actions b) = has_both k a b
permits_both k (actions a) uncaught = sym (and-false (has k a))
permits_both k uncaught b = refl

with_permits : (k : ℕ) (a : Allowed) (ps : List (List Entry)) (h : Header) → permits k (common_with a ps h) ≡ (permits k a && all_permit k ps h)
with_permits k a [] h = sym (and-true (permits k a))
with_permits k a (p ∷ ps) h =
    with_permits k (in_both a (allowed p h)) ps h
    ∙ ap (◌&& all_permit k ps h) (permits_both k a (allowed p h))
    ∙ and_assoc (permits k a) (permits k (allowed p h)) (all_permit k ps h)

-- an action is common where every list allows it
pub common_permits : (k : ℕ) (p : List Entry) (ps : List (List Entry)) (h : Header) → permits k (common_actions (p ∷ ps) h) ≡ all_permit k (p ∷ ps) h
common_permits k p ps h = with_permits k (allowed p h) ps h

-- a header has no common action where it is allowed the empty set
pub empty_permits : (a : Allowed) → is_empty a ≡ true → (k : ℕ) → permits k a ≡ false
empty_permits (actions a) e k = ap (has k) (eqb-true a 0 e) ∙ has_none k
empty_permits uncaught e k = refl

pub permits_empty : (a : Allowed) → is_caught a ≡ true → ((k : ℕ) → permits k a ≡ false) → is_empty a ≡ true
permits_empty (actions a) c f = eq-eqb a 0 (none_empty a f)
permits_empty uncaught c f = c
