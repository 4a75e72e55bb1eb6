-- What checks 1 to 4 test, as facts on numbers.
-- Assumes nothing.
use Rattle.std.specs.Prelude.{None, Option, Some}
use Prim.Native.Nat.{ℕ, ◌+◌, ◌*◌, ◌-◌, ◌≤◌, ◌<◌}
use native.Mathlib.Omega.{arith}
use native.Mathlib.Numerals.{add-one}
use mathlib.Core.Path.{◌≡◌, refl, sym, ◌∙◌, ap}
use mathlib.Core.Bool.{Bool, true, false, not, cond, ◌||◌}
use mathlib.Core.List.{List, [], ◌∷◌}
use lib.Dec.{ltb, eqb}
use lib.ListN.{length, get_or, drop, drop_of_length-le}
use lib.Seq.{drop-cons}
use borrow.Author.Tests.{ltb-false, eqb-true, lt-ltb, le-ltb, eq-eqb}
use Rattle.policy.specs.declared.entry.Entry.{Entry}
use Rattle.policy.specs.declared.refusal.Refusal.TheVariants.{Crossed}
use Rattle.policy.specs.Refusals.{Answer, refusal, accepted, first_of}
use Rattle.policy.specs.Entry.{crossed}
use Rattle.policy.proofs.Bool.{not_false, clash, or_left, or_right}
use Rattle.wire.specs.Format.{head_size, record_size, length_in, version_in, count_in, entries_from}
use Rattle.wire.specs.Lists.{empty_entry}
use Rattle.policy.proofs.Refusals.{refusal-clash}
use Rattle.wire.proofs.CountCheck.{compared_as_divided}
use Rattle.wire.proofs.Entries.{length_entries, first_at}
use Rattle.wire.proofs.Sizes.{size_least}
use Rattle.wire.specs.Checks.{missized, bad_version, outside, bad_count, first_from, refuse_entry, checks_of}
use Rattle.wire.specs.steps.Crossed.{crossed_of}
use Rattle.wire.specs.steps.Numbered.{entry_in}

-- an `or` that is false
pub or_false_left : (a b : Bool) → (a || b) ≡ false → a ≡ false
or_false_left true b e = e
or_false_left false b e = refl

pub or_false_right : (a b : Bool) → (a || b) ≡ false → b ≡ false
or_false_right true b e = clash refl e
or_false_right false b e = e

-- n is 1 to the limit
pub within_limits : (limit n : ℕ) → 1 ≤ n → n ≤ limit → outside limit n ≡ false
within_limits limit n p q = rw (le-ltb n 1 p, le-ltb limit n q)

pub none_outside : (limit n : ℕ) → n < 1 → outside limit n ≡ true
none_outside limit n p = or_left _ _ (lt-ltb n 1 p)

pub past_outside : (limit n : ℕ) → limit < n → outside limit n ≡ true
past_outside limit n p = or_right (ltb n 1) _ (lt-ltb limit n p)

pub limits_told : (limit n : ℕ) → outside limit n ≡ false → (1 ≤ n) × (n ≤ limit)
limits_told limit n e = (ltb-false n 1 (or_false_left _ _ e), ltb-false limit n (or_false_right (ltb n 1) _ e))

module _ (s : List ℕ) where
  -- check 1
  pub sized : head_size ≤ length s → length s ≡ length_in s + 2 → missized s ≡ false
  sized p q = rw (le-ltb (length s) head_size p, eq-eqb (length s) (length_in s + 2) q)

  pub size_told : missized s ≡ false → (head_size ≤ length s) × (length s ≡ length_in s + 2)
  size_told e = (
    ltb-false (length s) head_size (or_false_left _ _ e),
    eqb-true (length s) (length_in s + 2) (not_false (or_false_right (ltb (length s) head_size) _ e)),
  )

  -- check 3
  by_comparing : (limit : ℕ) → bad_count s limit ≡ (outside limit (count_in s) || not (eqb (length_in s - 3) (record_size (version_in s) * count_in s)))
  by_comparing limit = ap (outside limit (count_in s) ||◌) (sym (compared_as_divided (record_size (version_in s)) (omega (arith, size_least (version_in s))) (length_in s) (count_in s)))

  pub counted : (limit : ℕ) → outside limit (count_in s) ≡ false → length_in s - 3 ≡ record_size (version_in s) * count_in s → bad_count s limit ≡ false
  counted limit p q = by_comparing limit ∙ rw (p, eq-eqb (length_in s - 3) (record_size (version_in s) * count_in s) q)

  pub count_told : (limit : ℕ) → bad_count s limit ≡ false → (outside limit (count_in s) ≡ false) × (length_in s - 3 ≡ record_size (version_in s) * count_in s)
  count_told limit e =
      let t = sym (by_comparing limit) ∙ e in (
        or_false_left _ _ t,
        eqb-true (length_in s - 3) (record_size (version_in s) * count_in s) (not_false (or_false_right (outside limit (count_in s)) _ t)),
      )

-- check 4, entry by entry: no entry before i has the property, so the first that does is the first among those from i on
abbrev pub Scanned : (Entry → Bool) → List Entry → ℕ → Type 0
Scanned P p i = first_from P 0 p ≡ first_from P i (drop i p)

module _ (P : Entry → Bool) (p : List Entry) (i : ℕ) (d : Entry) (l : i < length p) (h : Scanned P p i) where
  scanned_here : first_from P 0 p ≡ cond (P (get_or p i d)) (Some i) (first_from P (i + 1) (drop (i + 1) p))
  scanned_here =
      h ∙ ap (first_from P i) (drop-cons p i d l)
      ∙ ap (λ (k : ℕ). cond (P (get_or p i d)) (Some i) (first_from P (i + 1) (drop k p))) (sym (add-one i))

  pub scanned_crossed : (n : ℕ) (t : Bool) → t ≡ P (get_or p i d) → t ≡ true → refusal (Crossed i) ≡ crossed_of P p n
  scanned_crossed n t q e = rw (scanned_here, ← q, e)

  pub scanned_next : (t : Bool) → t ≡ P (get_or p i d) → t ≡ false → Scanned P p (i + 1)
  scanned_next t q e = scanned_here ∙ ap (λ (t : Bool). cond t (Some i) (first_from P (i + 1) (drop (i + 1) p))) (sym q ∙ e)

-- and it did not refuse
pub entry_not_refused : (o : Option ℕ) (rs : List (Option Answer)) (a : Answer) (vs : List ℕ) → accepted vs ≡ first_of (refuse_entry Crossed o ∷ rs) a → (o ≡ None) × (accepted vs ≡ first_of rs a)
entry_not_refused (Some i) rs a vs e = refusal-clash (Crossed i) vs (sym e)
entry_not_refused None rs a vs e = (refl, e)

-- no entry is crossed
pub crossed_none : (P : Entry → Bool) (p : List Entry) (n : ℕ) → first_from P 0 p ≡ None → accepted (n ∷ []) ≡ crossed_of P p n
crossed_none P p n e = rw e

pub scanned_all : (P : Entry → Bool) (p : List Entry) (n i : ℕ) → length p ≤ i → Scanned P p i → accepted (n ∷ []) ≡ crossed_of P p n
scanned_all P p n i l h = crossed_none P p n (h ∙ ap (first_from P i) (drop_of_length-le p l))

-- the same of the n records of a file: record number i was tested
module _ (s : List ℕ) (n i : ℕ) where
  abbrev list : List Entry
  list = entries_from s 0 n

  module _ (e : Entry) (t : Bool) (l : i < n) (h : Scanned crossed list i) (g : e ≡ entry_in s i) (q : t ≡ crossed e) where
    more : i < length list
    more = let k = length_entries s 0 n in omega arith

    tested : t ≡ crossed (get_or list i empty_entry)
    tested = q ∙ ap crossed (g ∙ sym (first_at s n i empty_entry l))

    pub record_crossed : t ≡ true → refusal (Crossed i) ≡ crossed_of crossed list n
    record_crossed r = scanned_crossed crossed list i empty_entry more h n t tested r

    pub record_passed : t ≡ false → Scanned crossed list (i + 1)
    record_passed r = scanned_next crossed list i empty_entry more h t tested r

  pub records_passed : n ≤ i → Scanned crossed list i → accepted (n ∷ []) ≡ crossed_of crossed list n
  records_passed l h = scanned_all crossed list n i (let k = length_entries s 0 n in omega arith) h

-- the answer of the checks, by the first that refuses
module _ (s : List ℕ) (limit : ℕ) where
  pub by_entries : missized s ≡ false → bad_version s ≡ false → bad_count s limit ≡ false
      → (n : ℕ) (a : Answer) → n ≡ count_in s → a ≡ crossed_of crossed (entries_from s 0 n) n → a ≡ checks_of s limit
  by_entries p q r n a e h = h ∙ ap (λ (m : ℕ). crossed_of crossed (entries_from s 0 m) m) e ∙ rw (p, q, r)
