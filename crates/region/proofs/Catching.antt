-- What catches the header that a search finds.
-- Assumes nothing.
use Rattle.std.specs.Prelude.{None, Option, Some}
use Rattle.std.proofs.Common.{◌≡◌, ℕ, ◌+◌, Bool, true, false, cond, not, List, ◌∷◌, ◌++◌, length, sym, refl, ap, ◌∙◌, arith, eqb-true}
use Rattle.policy.specs.declared.header.Header.{Header}
use Rattle.policy.specs.declared.entry.Entry.{Entry}
use Rattle.policy.specs.Row.{Row}
use Rattle.policy.specs.Box.{meet}
use Rattle.policy.specs.Header.{arity, fields, header, before, Box, lies, Headers, headers}
use Rattle.policy.specs.steps.Findings.{lesser}
use Rattle.policy.specs.Least.{least_in}
use Rattle.policy.specs.Entry.{matches}
use Rattle.policy.specs.Policy.{catcher, missed}
use Rattle.policy.proofs.Bool.{clash, not_true, and_intro, and_right}
use Rattle.policy.proofs.Box.{meet_is}
use Rattle.policy.proofs.Order.{Order, earlier, equal, later, order, pre_irrefl}
use Rattle.policy.proofs.Least.{lesser_last}
use Rattle.policy.proofs.Branch.{found_lies, found_has}
use Rattle.policy.proofs.Policy.{missed_append, uncaught_when}
use Rattle.region.specs.Search.{is_by}
use Rattle.region.specs.steps.Corner.{improves, sooner}
use Rattle.region.specs.steps.Treated.{CaughtBefore, Finds}
use Rattle.region.proofs.Uses.{by_number}

-- ---- a finding that comes before best, and one that does not

-- nothing comes before itself
none_before : {A : Type 0} (f : Option Header) → sooner f f ≡ true → A
none_before None e = clash e refl
none_before (Some h) e = absurd (pre_irrefl arity (fields h) e)

-- what was found does not come before best, so it is best
pub not_sooner : (r best c : Option Header) → c ≡ lesser r best → sooner c best ≡ false → lesser r best ≡ best
not_sooner r best c e n = go r best (ap (λ (c : Option Header). sooner c best) (sym e) ∙ n)
  where
    go : (r best : Option Header) → sooner (lesser r best) best ≡ false → lesser r best ≡ best
    go None best n = refl
    go (Some f) None n = clash refl n
    go (Some f) (Some g) n = one (before g f) refl n
      where
        same : before g f ≡ false → before f g ≡ false → Order arity (fields f) (fields g) → Some f ≡ Some g
        same p q (earlier l) = clash l q
        same p q (equal l) = ap (λ (r : Row ℕ arity). Some (header r)) l
        same p q (later l) = clash l p

        one : (t : Bool) → before g f ≡ t → sooner (cond t (Some g) (Some f)) (Some g) ≡ false → cond t (Some g) (Some f) ≡ Some g
        one true p n = refl
        one false p n = same p n (order arity (fields f) (fields g))

-- what was found comes before best, so it is the other one
other_than_best : (r best c : Option Header) → c ≡ lesser r best → sooner c best ≡ true → c ≡ r
other_than_best r best c e n = e ∙ go r best (ap (λ (c : Option Header). sooner c best) (sym e) ∙ n)
  where
    go : (r best : Option Header) → sooner (lesser r best) best ≡ true → lesser r best ≡ r
    go None best n = none_before best n
    go (Some f) None n = refl
    go (Some f) (Some g) n = one (before g f) n
      where
        one : (t : Bool) → sooner (cond t (Some g) (Some f)) (Some g) ≡ true → cond t (Some g) (Some f) ≡ Some f
        one true n = none_before (Some g) n
        one false n = refl

-- ---- the code's branches

pub sooner_at : (f best : Option Header) (h : Header) (t : Bool) → f ≡ Some h → t ≡ improves h best → t ≡ sooner f best
sooner_at f best h t e i = i ∙ ap (λ (f : Option Header). sooner f best) (sym e)

pub sooner_none : (f best : Option Header) → f ≡ None → false ≡ sooner f best
sooner_none f best e = ap (λ (f : Option Header). sooner f best) (sym e)

module _ (next last : Option Header) (searched by : Option ℕ) (t : Bool) (e : t ≡ sooner next last) where
  pub newer_caught : t ≡ true → searched ≡ cond (sooner next last) searched by
  newer_caught y = ap (λ (b : Bool). cond b searched by) (sym y ∙ e)

  pub older_caught : t ≡ false → by ≡ cond (sooner next last) searched by
  older_caught n = ap (λ (b : Bool). cond b searched by) (sym n ∙ e)

pub exhausted_by : (r best c : Option Header) (t : Bool) → c ≡ lesser r best → t ≡ sooner c best → not t ≡ true → lesser r best ≡ best
exhausted_by r best c t e i n = not_sooner r best c e (sym i ∙ not_true n)

-- ---- a search begins with best, and goes on

pub caught_first : (p : List Entry) (best : Option Header) (by : Option ℕ) → CaughtBefore p best best by
caught_first p best by h e n = none_before best n

pub caught_next : (p : List Entry) (best last next least : Option Header) (searched by new : Option ℕ) → next ≡ lesser least last → new ≡ cond (sooner next last) searched by
    → ((h : Header) → least ≡ Some h → searched ≡ catcher p h) → CaughtBefore p best last by → CaughtBefore p best next new
caught_next p best last next least searched by new e c found was = go (sooner next last) refl
  where
    go : (t : Bool) → sooner next last ≡ t → CaughtBefore p best next new
    go true s h a b = c ∙ ap (λ (t : Bool). cond t searched by) s ∙ found h (sym (other_than_best least last next e s) ∙ a)
    go false s h a b =
        let q : next ≡ last = e ∙ not_sooner least last next e s in
        c ∙ ap (λ (t : Bool). cond t searched by) s ∙ was h (sym q ∙ a) (ap (λ (f : Option Header). sooner f best) (sym q) ∙ b)

-- ---- which entry

-- the number that the want asks for
pub by_is : (k : ℕ) (c : Option ℕ) → is_by k c ≡ true → Some k ≡ c
by_is k (Some i) e = ap Some (sym (eqb-true i k e))
by_is k None e = clash e refl

-- what no entry matches
pub finds_uncaught : (x : Box) (p : List Entry) (found : Option Header) → found ≡ least_in headers x (missed p) → Finds p (least_in headers x (missed p)) None (record { found = found; by = None })
finds_uncaught x p found f = record {
  header = f ∙ sym (lesser_last (least_in headers x (missed p)));
  entry = λ h a s. sym (uncaught_when 0 p h (found_has headers x (missed p) h (sym f ∙ a)));
}

module _ (hs : Headers) (x : Box) (front : List Entry) where
  -- behind the front
  pub left_uncaught_by : (p : List Entry) (h : Header) → least_in hs x (missed (front ++ p)) ≡ Some h → None ≡ catcher p h
  left_uncaught_by p h e =
      sym (uncaught_when 0 p h (and_right (missed front h) (missed p h) (sym (missed_append front p h) ∙ found_has hs x (missed (front ++ p)) h e)))

  -- the part of entry e, behind the front and the entries before it
  pub left_caught_by : (mine : List Entry) (e : Entry) (back : List Entry) (i : ℕ) (h : Header) (s : Box) → length mine ≡ i → ((h : Header) → matches e h ≡ lies s h)
      → least_in hs (meet arity x s) (missed (front ++ mine)) ≡ Some h → Some i ≡ catcher (mine ++ e ∷ back) h
  left_caught_by mine e back i h s n m f =
      by_is i (catcher (mine ++ e ∷ back) h)
      (ap (λ (k : ℕ). is_by k (catcher (mine ++ e ∷ back) h)) (sym n ∙ from_zero (length mine)) ∙ by_number 0 mine e back h ∙ and_intro before matched)
    where
      from_zero : (n : ℕ) → n ≡ 0 + n
      from_zero n = omega arith

      before : missed mine h ≡ true
      before = and_right (missed front h) (missed mine h) (sym (missed_append front mine h) ∙ found_has hs (meet arity x s) (missed (front ++ mine)) h f)

      matched : matches e h ≡ true
      matched = m h ∙ and_right (lies x h) (lies s h) (sym (meet_is arity x s (fields h)) ∙ found_lies hs (meet arity x s) (missed (front ++ mine)) h f)
