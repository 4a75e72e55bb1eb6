-- First match among the records of a file.
-- Assumes nothing.
use Rattle.std.specs.Prelude.{None, Option, Some}
use Prim.Native.Nat.{ℕ, ◌+◌, ◌<◌, ◌≤◌}
use native.Mathlib.Omega.{arith}
use mathlib.Core.Path.{◌≡◌, sym, ap, ◌∙◌}
use mathlib.Core.Bool.{Bool, true, false, not, cond, ◌&&◌, and-true}
use mathlib.Core.List.{List}
use lib.Dec.{leb}
use lib.ListN.{length, get_or}
use borrow.Author.Tests.{eq-eqb, ne_eqb, le-leb}
use Rattle.policy.specs.declared.header.Header.{Header}
use Rattle.policy.specs.declared.entry.Entry.{Entry}
use Rattle.policy.specs.Box.{range, within}
use Rattle.policy.specs.Entry.{matches}
use Rattle.policy.specs.Header.{among, headers}
use Rattle.policy.specs.Policy.{catcher}
use Rattle.policy.proofs.Bool.{not_true, not_false}
use Rattle.wire.specs.Format.{version_in, directions_at, entry_at, place_in, entries_from}
use Rattle.wire.specs.steps.Numbered.{entry_in}
use Rattle.wire.proofs.Entries.{length_entries, first_at}
use Rattle.lookup.specs.Lookup.{header_catcher}
use Rattle.lookup.proofs.FirstMatch as match

-- ---- the direction, which the record of a file of version 1 covers whatever it is

module _ (v : ℕ) (s : List ℕ) (at x : ℕ) where
  pub covers_both : v ≡ 1 → leb x 1 ≡ (within (directions_at v s at) x && true)
  covers_both one = sym (ap (λ (b : Bool). within (cond b (range 0 1) (range (get_or s (at + 26) 0) (get_or s (at + 27) 0))) x && true) (eq-eqb v 1 one) ∙ and-true (leb 0 x && leb x 1) ∙ ap (◌&& leb x 1) (le-leb 0 x (omega arith)))

  pub covers_its_own : (t : Bool) → (v ≡ 1 → ⊥) → t ≡ within (range (get_or s (at + 26) 0) (get_or s (at + 27) 0)) x → t ≡ (within (directions_at v s at) x && true)
  covers_its_own t other e =
      e ∙ sym (ap (λ (b : Bool). within (cond b (range 0 1) (range (get_or s (at + 26) 0) (get_or s (at + 27) 0))) x && true) (ne_eqb v 1 other)
      ∙ and-true (within (range (get_or s (at + 26) 0) (get_or s (at + 27) 0)) x))

-- ---- first match

-- the record that was tested is entry i
pub entry_tested : (s : List ℕ) (i at : ℕ) (h : Header) (r : Bool) → at ≡ place_in s i → r ≡ matches (entry_at (version_in s) s at) h → r ≡ matches (entry_in s i) h
entry_tested s i at h r p q = q ∙ ap (λ (k : ℕ). matches (entry_at (version_in s) s k) h) p

-- none of the records before the i-th matches h
abbrev pub Passed : List ℕ → ℕ → Header → ℕ → Type 0
Passed s n h i = match.Passed (entries_from s 0 n) h i

-- the i-th record, which was tested
module _ (s : List ℕ) (n : ℕ) (h : Header) (i : ℕ) (l : i < n) (passed : Passed s n h i) (r : Bool) (tested : r ≡ matches (entry_in s i) h) where
  abbrev entry : Entry
  entry = entry_in s i

  inside : i < length (entries_from s 0 n)
  inside = let k : length (entries_from s 0 n) ≡ n = length_entries s 0 n in omega arith

  pub matched : r ≡ true → Some i ≡ catcher (entries_from s 0 n) h
  matched m = match.matched (entries_from s 0 n) h i entry entry inside (first_at s n i entry l) passed (sym tested ∙ m)

  pub unmatched : r ≡ false → Passed s n h (i + 1)
  unmatched m = match.unmatched (entries_from s 0 n) h i entry entry inside (first_at s n i entry l) passed (sym tested ∙ m)

-- no record is left
pub ended : (s : List ℕ) (n : ℕ) (h : Header) (i : ℕ) → n ≤ i → Passed s n h i → None ≡ catcher (entries_from s 0 n) h
ended s n h i l passed = match.ended (entries_from s 0 n) h i (let k : length (entries_from s 0 n) ≡ n = length_entries s 0 n in omega arith) passed

-- ---- where h may be no header

module _ (p : List Entry) (h : Header) (t : Bool) (e : t ≡ among headers h) where
  pub no_header : not t ≡ true → None ≡ header_catcher p h
  no_header n = sym (ap (λ (b : Bool). cond b (catcher p h) None) (sym e ∙ not_true n))

  pub by_first_match : (r : Option ℕ) → not t ≡ false → r ≡ catcher p h → r ≡ header_catcher p h
  by_first_match r n f = f ∙ sym (ap (λ (b : Bool). cond b (catcher p h) None) (sym e ∙ not_false n))
