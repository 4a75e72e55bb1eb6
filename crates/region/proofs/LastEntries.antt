-- What the last entries of a list miss, and what that shows of the whole list.
-- Assumes nothing.
use Rattle.std.specs.Prelude.{None, Option, Some}
use Rattle.std.proofs.Common.{◌≡◌, ℕ, ◌+◌, ◌-◌, ◌<◌, ◌≤◌, Bool, true, false, ◌&&◌, List, ◌++◌, sym, refl, ap, ◌∙◌, subst, arith}
use mathlib.Core.Bool.{and-false}
use Rattle.policy.specs.declared.header.Header.{Header}
use Rattle.policy.specs.declared.entry.Entry.{Entry}
use Rattle.policy.specs.Header.{Box, lies, Headers, headers}
use Rattle.policy.specs.Least.{least_in}
use Rattle.policy.specs.Policy.{catcher, missed}
use Rattle.policy.proofs.Bool.{and_intro, and_left}
use Rattle.policy.proofs.Least.{least_at, least_none, at_tells, none_tells}
use Rattle.policy.proofs.Policy.{missed_append, uncaught_by}
use Rattle.wire.specs.Format.{filed_limit, entries_from}
use Rattle.wire.proofs.Entries.{first_split}
use Rattle.region.specs.ListChecks.{gap_of}

-- ---- a list and its last entries, over any set of headers

module _ (hs : Headers) (x : Box) (front back : List Entry) where
  -- what the whole list misses, its last entries miss
  nor_all : (h : Header) → (lies x h && missed back h) ≡ false → (lies x h && missed (front ++ back) h) ≡ false
  nor_all h e = ap (lies x h &&◌) (missed_append front back h) ∙ table (lies x h) (missed front h) (missed back h) e
    where
      table : (i f b : Bool) → (i && b) ≡ false → (i && (f && b)) ≡ false
      table true true b e = e
      table true false b e = refl
      table false f b e = refl

  last_miss_none : least_in hs x (missed back) ≡ None → least_in hs x (missed (front ++ back)) ≡ None
  unfolding least_in
  last_miss_none e = least_none hs (λ h. lies x h && missed (front ++ back) h) λ h a. nor_all h (none_tells hs (λ h. lies x h && missed back h) e h a)

  last_miss_least : (h : Header) → least_in hs x (missed back) ≡ Some h → missed (front ++ back) h ≡ true → least_in hs x (missed (front ++ back)) ≡ Some h
  unfolding least_in
  last_miss_least h e m =
      let t = at_tells hs (λ h. lies x h && missed back h) h e in
      least_at hs (λ h. lies x h && missed (front ++ back) h) h t.0 (and_intro (and_left (lies x h) (missed back h) t.1) m) λ g a l. nor_all g (t.2 g a l)

-- ---- the file

module _ (s : List ℕ) (n last : ℕ) (x : Box) where
  last_of : last ≤ filed_limit → filed_limit < n → entries_from s 0 n ≡ entries_from s 0 (n - last) ++ entries_from s (n - last) last
  last_of l m = ap (entries_from s 0) (parts n last l m) ∙ first_split s (n - last) last
    where
      parts : (n k : ℕ) → k ≤ filed_limit → filed_limit < n → n ≡ n - k + k
      parts n k l m = omega arith

  -- the last records leave nothing
  pub closed_by_last : (found : Option Header) → last ≤ filed_limit → filed_limit < n → found ≡ least_in headers x (missed (entries_from s (n - last) last)) → found ≡ None
      → None ≡ least_in headers x (missed (entries_from s 0 n))
  closed_by_last found l m f e =
      sym
      (ap (λ (p : List Entry). least_in headers x (missed p)) (last_of l m)
      ∙ last_miss_none headers x (entries_from s 0 (n - last)) (entries_from s (n - last) last) (sym f ∙ e))

  -- or a header that no record matches
  pub missed_by_all : (found : Option Header) (h : Header) (c : Option ℕ) → last ≤ filed_limit → filed_limit < n → found ≡ least_in headers x (missed (entries_from s (n - last) last)) → found ≡ Some h
      → c ≡ catcher (entries_from s 0 n) h → c ≡ None → Some h ≡ least_in headers x (missed (entries_from s 0 n))
  missed_by_all found h c l m f e g u =
      sym
      (ap (λ (p : List Entry). least_in headers x (missed p)) (last_of l m)
      ∙ last_miss_least headers x (entries_from s 0 (n - last)) (entries_from s (n - last) last) h (sym f ∙ e)
      (subst (λ (p : List Entry). missed p h ≡ true) (last_of l m) (uncaught_by 0 (entries_from s 0 n) h (sym g ∙ u))))

-- a list without a gap has none in x
pub no_gap_in : (s : List ℕ) (n : ℕ) (x : Box) (t : Bool) → (t ≡ true → gap_of (entries_from s 0 n) ≡ None) → t ≡ true
    → None ≡ least_in headers x (missed (entries_from s 0 n))
unfolding least_in
no_gap_in s n x t f q =
    sym (least_none headers (λ h. lies x h && missed p h) λ h a. ap (lies x h &&◌) (none_tells headers (missed p) (f q) h a) ∙ and-false (lies x h))
  where
    p : List Entry
    p = entries_from s 0 n
