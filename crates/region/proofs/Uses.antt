-- What the search for a missed header is used for: each question of 01 goes by the entries of a list, and each entry's part is such a search. Over any set of headers.
-- Assumes nothing.
use Rattle.std.specs.Prelude.{None, Option, Some}
use Rattle.std.proofs.Common.{◌≡◌, ℕ, suc, ◌+◌, ◌<◌, ◌≤◌, Bool, true, false, cond, not, ◌&&◌, ◌||◌, List, [], ◌∷◌, ◌++◌, length, sym, refl, ap, ◌∙◌, arith, eq-eqb, ne_eqb}
use mathlib.Core.Path.{fun_ext}
use mathlib.Core.Bool.{and-false}
use Rattle.policy.specs.declared.header.Header.{Header}
use Rattle.policy.specs.declared.entry.Entry.{Entry}
use Rattle.policy.specs.Box.{meet}
use Rattle.policy.specs.Header.{arity, fields, Box, lies, Headers}
use Rattle.policy.specs.steps.Findings.{lesser}
use Rattle.policy.specs.Least.{least, least_in}
use Rattle.policy.specs.Entry.{selector, matches}
use Rattle.policy.specs.Policy.{catcher_from, catcher, Allowed, actions, uncaught, allowed, missed, at_most, exceeds}
use Rattle.policy.proofs.Box.{meet_is}
use Rattle.policy.proofs.Least.{least_none, lesser_assoc, lesser_comm}
use Rattle.policy.proofs.Branch.{least_in-union, least_in-if, implied}
use Rattle.policy.proofs.Policy.{missed_cons, missed_append}
use Rattle.region.specs.declared.treated.Sets.{Sets}
use Rattle.region.specs.declared.treated.Sets.TheVariants.{Other, Lacking}
use Rattle.region.specs.declared.search.Want.TheVariants as want
use Rattle.region.specs.steps.Treated.{wanted, judged}
use Rattle.region.specs.Search.{is_by, differs_from, treated}

-- ---- the part of an entry

-- the least header of x that the front misses and e matches, and that has the property
pub entry_part : (hs : Headers) (x : Box) (front : List Entry) (e : Entry) (P : Header → Bool)
    → least_in hs x (λ h. missed front h && (matches e h && P h)) ≡ least_in hs (meet arity x (selector e)) (λ h. missed front h && P h)
unfolding least_in
entry_part hs x front e P = ap (least hs) (fun_ext λ h. table (lies x h) (missed front h) (matches e h) (P h) ∙ ap (◌&& (missed front h && P h)) (sym (meet_is arity x (selector e) (fields h))))
  where
    table : (i f m p : Bool) → (i && (f && (m && p))) ≡ (i && m && (f && p))
    table false f m p = refl
    table true true m p = refl
    table true false true p = refl
    table true false false p = refl

-- the least header of x that e catches behind the front (01, rule 2; "caught by a given entry")
pub entry_catches : (hs : Headers) (x : Box) (front : List Entry) (e : Entry)
    → least_in hs x (λ h. missed front h && matches e h) ≡ least_in hs (meet arity x (selector e)) (missed front)
unfolding least_in
entry_catches hs x front e = ap (least hs) (fun_ext λ h. table (lies x h) (missed front h) (matches e h) ∙ ap (◌&& missed front h) (sym (meet_is arity x (selector e) (fields h))))
  where
    table : (i f m : Bool) → (i && (f && m)) ≡ (i && m && f)
    table false f m = refl
    table true true true = refl
    table true true false = refl
    table true false true = refl
    table true false false = refl

-- ---- a question that the first match decides

-- P of the headers that e matches, and Q of the others
module _ (hs : Headers) (x : Box) (front : List Entry) (e : Entry) (P Q : Header → Bool) where
  split_entry : (h : Header) → (missed front h && cond (matches e h) (P h) (Q h)) ≡ (missed front h && (matches e h && P h) || missed (front ++ e ∷ []) h && Q h)
  split_entry h = table (missed front h) (matches e h) (P h) (Q h) ∙ ap (λ (t : Bool). missed front h && (matches e h && P h) || t && Q h) (sym both)
    where
      table : (f m p q : Bool) → (f && cond m p q) ≡ (f && (m && p) || f && not m && q)
      table false m p q = refl
      table true true true q = refl
      table true true false q = refl
      table true false p q = refl

      both : missed (front ++ e ∷ []) h ≡ (missed front h && not (matches e h))
      both = missed_append front (e ∷ []) h ∙ ap (missed front h &&◌) (missed_cons e [] h ∙ last (not (matches e h)))
        where
          last : (t : Bool) → (t && true) ≡ t
          last true = refl
          last false = refl

  pub by_first_match : least_in hs x (λ h. missed front h && cond (matches e h) (P h) (Q h))
      ≡ lesser (least_in hs (meet arity x (selector e)) (λ h. missed front h && P h)) (least_in hs x (λ h. missed (front ++ e ∷ []) h && Q h))
  by_first_match =
      ap (least_in hs x) (fun_ext split_entry)
      ∙ least_in-union hs x (λ h. missed front h && (matches e h && P h)) (λ h. missed (front ++ e ∷ []) h && Q h)
      ∙ ap (λ (r : Option Header). lesser r (least_in hs x (λ h. missed (front ++ e ∷ []) h && Q h))) (entry_part hs x front e P)

-- nothing is left where the front leaves nothing that comes before the finding
pub exhausted : (hs : Headers) (x : Box) (front : List Entry) (P : Header → Bool) (found : Option Header) → lesser (least_in hs x (missed front)) found ≡ found
    → lesser (least_in hs x (λ h. missed front h && P h)) found ≡ found
exhausted hs x front P found e = implied hs x (λ h. missed front h && P h) (missed front) found (λ h. table (missed front h) (P h)) e
  where
    table : (f p : Bool) → (f && p || f) ≡ f
    table true true = refl
    table true false = refl
    table false p = refl

-- the least header of x behind the front that the list allows what is wanted
abbrev pub left_in : Headers → Box → Sets → Bool → List Entry → List Entry → Option Header
left_in hs x q d front p = least_in hs x (λ h. missed front h && judged q d (allowed p h))

-- what the list of e and p allows, judged: by e's set in e's part, and by p in what is left
module _ (hs : Headers) (x : Box) (q : Sets) (d : Bool) (front : List Entry) where
  judged_cons : (e : Entry) (p : List Entry) (h : Header) → judged q d (allowed (e ∷ p) h) ≡ cond (matches e h) (wanted q e.actions) (judged q d (allowed p h))
  judged_cons e p h = go (matches e h)
    where
      go : (m : Bool) → judged q d (cond m (actions e.actions) (allowed p h)) ≡ cond m (wanted q e.actions) (judged q d (allowed p h))
      go true = refl
      go false = refl

  judged_step : (e : Entry) (p : List Entry)
      → left_in hs x q d front (e ∷ p) ≡ lesser (cond (wanted q e.actions) (least_in hs (meet arity x (selector e)) (missed front)) None) (left_in hs x q d (front ++ e ∷ []) p)
  judged_step e p =
      ap (least_in hs x) (fun_ext λ h. ap (missed front h &&◌) (judged_cons e p h))
      ∙ by_first_match hs x front e (λ h. wanted q e.actions) (λ h. judged q d (allowed p h))
      ∙ ap (λ (r : Option Header). lesser r (left_in hs x q d (front ++ e ∷ []) p)) (least_in-if hs (meet arity x (selector e)) (missed front) (wanted q e.actions))

  -- an entry whose set is wanted, and one whose set is not
  pub judged_wanted : (e : Entry) (p : List Entry) (found : Option Header) → wanted q e.actions ≡ true
      → lesser (left_in hs x q d front (e ∷ p)) found ≡ lesser (left_in hs x q d (front ++ e ∷ []) p) (lesser (least_in hs (meet arity x (selector e)) (missed front)) found)
  judged_wanted e p found w =
      ap (λ (r : Option Header). lesser r found)
      (judged_step e p ∙ ap (λ (t : Bool). lesser (cond t (least_in hs (meet arity x (selector e)) (missed front)) None) (left_in hs x q d (front ++ e ∷ []) p)) w
      ∙ lesser_comm (least_in hs (meet arity x (selector e)) (missed front)) (left_in hs x q d (front ++ e ∷ []) p))
      ∙ lesser_assoc (left_in hs x q d (front ++ e ∷ []) p) (least_in hs (meet arity x (selector e)) (missed front)) found

  pub judged_passed : (e : Entry) (p : List Entry) (found : Option Header) → wanted q e.actions ≡ false
      → lesser (left_in hs x q d front (e ∷ p)) found ≡ lesser (left_in hs x q d (front ++ e ∷ []) p) found
  judged_passed e p found w =
      ap (λ (r : Option Header). lesser r found)
      (judged_step e p ∙ ap (λ (t : Bool). lesser (cond t (least_in hs (meet arity x (selector e)) (missed front)) None) (left_in hs x q d (front ++ e ∷ []) p)) w)

  -- the end of the list: what it does not catch
  pub judged_end : left_in hs x q d front [] ≡ cond d (least_in hs x (missed front)) None
  judged_end = least_in-if hs x (missed front) d

  pub judged_exhausted : (p : List Entry) (found : Option Header) → lesser (least_in hs x (missed front)) found ≡ found → lesser (left_in hs x q d front p) found ≡ found
  judged_exhausted p found e = exhausted hs x front (λ h. judged q d (allowed p h)) found e

-- ---- comparison: what p allows and q does not (Definition 6), by the entries of p

pub exceeds_step : (hs : Headers) (x : Box) (front : List Entry) (e : Entry) (p q : List Entry)
    → least_in hs x (λ h. missed front h && exceeds (e ∷ p) q h)
    ≡ lesser (least_in hs (meet arity x (selector e)) (λ h. missed front h && judged (Lacking e.actions) true (allowed q h)))
    (least_in hs x (λ h. missed (front ++ e ∷ []) h && exceeds p q h))
exceeds_step hs x front e p q =
    ap (least_in hs x) (fun_ext λ h. ap (missed front h &&◌) (one h))
    ∙ by_first_match hs x front e (λ h. judged (Lacking e.actions) true (allowed q h)) (exceeds p q)
  where
    lacks : (b : Allowed) → not (at_most (actions e.actions) b) ≡ judged (Lacking e.actions) true b
    lacks (actions b) = refl
    lacks uncaught = refl

    one : (h : Header) → exceeds (e ∷ p) q h ≡ cond (matches e h) (judged (Lacking e.actions) true (allowed q h)) (exceeds p q h)
    one h = go (matches e h)
      where
        go : (m : Bool) → not (at_most (cond m (actions e.actions) (allowed p h)) (allowed q h)) ≡ cond m (judged (Lacking e.actions) true (allowed q h)) (exceeds p q h)
        go true = lacks (allowed q h)
        go false = refl

pub exceeds_end : (hs : Headers) (x : Box) (front q : List Entry) → least_in hs x (λ h. missed front h && exceeds [] q h) ≡ None
unfolding least_in
exceeds_end hs x front q = least_none hs (λ h. lies x h && (missed front h && false)) λ h a. ap (lies x h &&◌) (and-false (missed front h)) ∙ and-false (lies x h)

-- ---- the wants of a search (01)

-- an entry catches what it matches and no entry before it does
past : (k i : ℕ) (p : List Entry) (h : Header) → k < i → is_by k (catcher_from i p h) ≡ false
past k i [] h l = refl
past k i (e ∷ p) h l = go (matches e h) (past k (i + 1) p h (next k i l))
  where
    next : (k i : ℕ) → k < i → k < i + 1
    next k i l = omega arith

    apart : (k i : ℕ) → k < i → i ≡ k → ⊥
    apart k i l e = omega arith

    go : (m : Bool) → is_by k (catcher_from (i + 1) p h) ≡ false → is_by k (cond m (Some i) (catcher_from (i + 1) p h)) ≡ false
    go true r = ne_eqb i k (apart k i l)
    go false r = r

pub by_number : (i : ℕ) (front : List Entry) (e : Entry) (back : List Entry) (h : Header)
    → is_by (i + length front) (catcher_from i (front ++ e ∷ back) h) ≡ (missed front h && matches e h)
by_number i [] e back h = go (matches e h)
  where
    self : (i : ℕ) → i ≡ i + 0
    self i = omega arith

    less : (i : ℕ) → i + 0 < i + 1
    less i = omega arith

    go : (m : Bool) → is_by (i + 0) (cond m (Some i) (catcher_from (i + 1) back h)) ≡ m
    go true = eq-eqb i (i + 0) (self i)
    go false = past (i + 0) (i + 1) back h (less i)
by_number i (g ∷ front) e back h = go (matches g h) refl (by_number (i + 1) front e back h)
  where
    apart : (i n : ℕ) → i ≡ i + suc n → ⊥
    apart i n e = omega arith

    move : (i n : ℕ) → i + 1 + n ≡ i + suc n
    move i n = omega arith

    go : (m : Bool) → matches g h ≡ m → is_by (i + 1 + length front) (catcher_from (i + 1) (front ++ e ∷ back) h) ≡ (missed front h && matches e h)
        → is_by (i + suc (length front)) (cond m (Some i) (catcher_from (i + 1) (front ++ e ∷ back) h)) ≡ (missed (g ∷ front) h && matches e h)
    go true m r = ne_eqb i (i + suc (length front)) (apart i (length front)) ∙ sym (ap (◌&& matches e h) (missed_cons g front h ∙ ap (λ (t : Bool). not t && missed front h) m))
    go false m r =
        ap (λ (k : ℕ). is_by k (catcher_from (i + 1) (front ++ e ∷ back) h)) (sym (move i (length front)))
        ∙ r
        ∙ sym (ap (◌&& matches e h) (missed_cons g front h ∙ ap (λ (t : Bool). not t && missed front h) m))

pub caught_by : (hs : Headers) (x : Box) (front : List Entry) (e : Entry) (back : List Entry)
    → least_in hs x (treated (want.CaughtBy (length front)) (front ++ e ∷ back)) ≡ least_in hs (meet arity x (selector e)) (missed front)
caught_by hs x front e back =
    ap (least_in hs x) (fun_ext λ h. ap (λ (k : ℕ). is_by k (catcher (front ++ e ∷ back) h)) (from_zero (length front)) ∙ by_number 0 front e back h)
    ∙ entry_catches hs x front e
  where
    from_zero : (n : ℕ) → n ≡ 0 + n
    from_zero n = omega arith

-- an entry number past the list's end catches nothing
over_end : (i k : ℕ) (p : List Entry) (h : Header) → i + length p ≤ k → is_by k (catcher_from i p h) ≡ false
over_end i k [] h l = refl
over_end i k (e ∷ p) h l = go (matches e h) (over_end (i + 1) k p h (next i (length p) k l))
  where
    next : (i n k : ℕ) → i + suc n ≤ k → i + 1 + n ≤ k
    next i n k l = omega arith

    apart : (i n k : ℕ) → i + suc n ≤ k → i ≡ k → ⊥
    apart i n k l e = omega arith

    go : (m : Bool) → is_by k (catcher_from (i + 1) p h) ≡ false → is_by k (cond m (Some i) (catcher_from (i + 1) p h)) ≡ false
    go true r = ne_eqb i k (apart i (length p) k l)
    go false r = r

pub caught_by_none : (hs : Headers) (x : Box) (k : ℕ) (p : List Entry) → length p ≤ k → least_in hs x (treated (want.CaughtBy k) p) ≡ None
unfolding least_in
caught_by_none hs x k p l =
    least_none hs (λ h. lies x h && is_by k (catcher p h)) λ h a. ap (lies x h &&◌) (over_end 0 k p h (from (length p) k l)) ∙ and-false (lies x h)
  where
    from : (n k : ℕ) → n ≤ k → 0 + n ≤ k
    from n k l = omega arith

pub differs_judged : (s : ℕ) (a : Allowed) → differs_from s a ≡ judged (Other s) true a
differs_judged s (actions a) = refl
differs_judged s uncaught = refl
