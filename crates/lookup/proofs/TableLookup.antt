-- Lookup in a table: entry by entry; what a crossed entry and an empty table catch, and that a table read from a file is looked up as the file is.
-- Assumes nothing.
use Rattle.policy.specs.declared.refusal.Refusal.{Refusal}
use Rattle.std.specs.Prelude.{None, Option, Some, Result}
use Prim.Native.Nat.{ℕ, suc, ◌+◌, ◌<◌, ◌≤◌}
use native.Mathlib.Omega.{arith}
use native.Mathlib.Numerals.{add-one}
use mathlib.Core.Path.{◌≡◌, refl, sym, ap, ◌∙◌}
use mathlib.Core.Bool.{Bool, true, false, not, cond, ◌&&◌}
use mathlib.Core.List.{List, [], ◌∷◌, map}
use lib.ListN.{length, get_or, drop, drop_of_length-le, length-map, get_or-map}
use lib.Seq.{drop-cons}
use Rattle.policy.specs.declared.header.Header.{Header}
use Rattle.policy.specs.declared.entry.Entry.{Entry}
use Rattle.policy.specs.Header.{arity, fields, among, headers}
use Rattle.policy.specs.Entry.{selector, matches, crossed}
use Rattle.policy.specs.Policy.{catcher, catcher_from}
use Rattle.policy.specs.Refusals.{accepted, is_accepted}
use Rattle.policy.proofs.Bool.{is_false, clash, and_left, and_right}
use Rattle.policy.proofs.Box.{in_proper}
use Rattle.policy.proofs.Refusals.{accepted_passes, passes}
use Rattle.wire.specs.declared.list.Entries.{Entries}
use Rattle.wire.specs.Format.{list_limit, version_in, count_in, list_in}
use Rattle.wire.specs.Checks.{first_from, file_checks, checks_of}
use Rattle.wire.proofs.Checked.{accepted_tells}
use Rattle.wire.specs.Lists.{empty_entry, held, listed, no_entries, reading_of}
use Rattle.wire.proofs.RoundTrip.{held_listed}
use Rattle.lookup.specs.Lookup.{caught_values, header_catcher, counted, looked, lookup_of}
use Rattle.lookup.proofs.FileLookup.{file_refuses}
use Rattle.lookup.proofs.FirstMatch.{Passed, matched}

-- the entry that fills unused places matches nothing
empty_matches_nothing : (h : Header) → matches empty_entry h ≡ false
empty_matches_nothing h = is_false (matches empty_entry h) λ m. clash (in_proper arity (selector empty_entry) (fields h) m) refl

-- an entry of a table matches if it is not crossed
counted_matches : (e : Entry) (h : Header) → matches (counted e) h ≡ (not (crossed e) && matches e h)
counted_matches e h = go (crossed e)
  where
    go : (c : Bool) → matches (cond c empty_entry e) h ≡ (not c && matches e h)
    go true = empty_matches_nothing h
    go false = refl

-- a crossed entry of a table matches nothing
pub crossed_matches_nothing : (e : Entry) (h : Header) → crossed e ≡ true → matches (counted e) h ≡ false
crossed_matches_nothing e h c = counted_matches e h ∙ ap (λ (t : Bool). not t && matches e h) c

-- the entries of a list without a crossed one count as they are
pub counted_as_they_are : (i : ℕ) (p : List Entry) → first_from crossed i p ≡ None → map counted p ≡ p
counted_as_they_are i [] u = refl
counted_as_they_are i (e ∷ p) u = go (crossed e) refl u (counted_as_they_are (i + 1) p)
  where
    go : (c : Bool) → crossed e ≡ c → cond c (Some i) (first_from crossed (i + 1) p) ≡ None → (first_from crossed (i + 1) p ≡ None → map counted p ≡ p)
        → cond c empty_entry e ∷ map counted p ≡ e ∷ p
    go true q u ih = absurd (let z : ◌≡◌ {A = ℕ} 0 1 = cc in omega arith)
    go false q u ih = ap (e ∷◌) (ih u)

-- ---- first match where h may be no header: an entry that matches ends the walk only if it is one

-- what catches h is the first entry from i on that does
abbrev pub HeaderPassed : List Entry → Header → ℕ → Type 0
HeaderPassed p h i = header_catcher p h ≡ cond (among headers h) (catcher_from i (drop i p) h) None

pub header_passed : (p : List Entry) (h : Header) → HeaderPassed p h 0
header_passed p h = refl

-- an entry that does not match, or h is no header: the others decide
pub header_skipped : (b m : Bool) (i : ℕ) (c : Option ℕ) → (b && m) ≡ false → cond b (cond m (Some i) c) None ≡ cond b c None
header_skipped false m i c e = refl
header_skipped true false i c e = refl
header_skipped true true i c e = clash refl e

module _ (p : List Entry) (h : Header) (i : ℕ) (d e : Entry) (l : i < length p) (at : get_or p i d ≡ e) (passed : HeaderPassed p h i) where
  -- of a header, no entry before i matches it
  passed_header : among headers h ≡ true → Passed p h i
  passed_header a =
      sym (ap (λ (b : Bool). cond b (catcher p h) None) a) ∙ passed ∙ ap (λ (b : Bool). cond b (catcher_from i (drop i p) h) None) a

  pub header_matched : (among headers h && matches e h) ≡ true → Some i ≡ header_catcher p h
  header_matched m =
      let a = and_left (among headers h) (matches e h) m in
      matched p h i d e l at (passed_header a) (and_right (among headers h) (matches e h) m) ∙ sym (ap (λ (b : Bool). cond b (catcher p h) None) a)

  pub header_unmatched : (among headers h && matches e h) ≡ false → HeaderPassed p h (i + 1)
  header_unmatched m =
      passed
      ∙ ap (λ (q : List Entry). cond (among headers h) (catcher_from i q h) None) (drop-cons p i d l ∙ ap (◌∷ drop (suc i) p) at)
      ∙ header_skipped (among headers h) (matches e h) i (catcher_from (i + 1) (drop (suc i) p) h) m
      ∙ ap (λ (n : ℕ). cond (among headers h) (catcher_from (i + 1) (drop n p) h) None) (sym (add-one i))

-- no entry is left
pub header_none : (b : Bool) → ◌≡◌ {A = Option ℕ} (cond b None None) None
header_none true = refl
header_none false = refl

pub header_ended : (p : List Entry) (h : Header) (i : ℕ) → length p ≤ i → HeaderPassed p h i → None ≡ header_catcher p h
header_ended p h i l passed =
    sym (passed ∙ ap (λ (q : List Entry). cond (among headers h) (catcher_from i q h) None) (drop_of_length-le p l) ∙ header_none (among headers h))

-- ---- the same of a table, whose crossed entries match nothing

abbrev pub TablePassed : List Entry → Header → ℕ → Type 0
TablePassed p h i = HeaderPassed (map counted p) h i

module _ (p : List Entry) (h : Header) (i : ℕ) (d e : Entry) (l : i < length p) (at : get_or p i d ≡ e) (passed : TablePassed p h i) where
  inside : i < length (map counted p)
  inside = let k : length (map counted p) ≡ length p = length-map p counted in omega arith

  there : get_or (map counted p) i (counted d) ≡ counted e
  there = get_or-map counted p i d ∙ ap counted at

  pub table_matched : (among headers h && (not (crossed e) && matches e h)) ≡ true → Some i ≡ header_catcher (map counted p) h
  table_matched m = header_matched (map counted p) h i (counted d) (counted e) inside there passed (ap (among headers h &&◌) (counted_matches e h) ∙ m)

  pub table_unmatched : (among headers h && (not (crossed e) && matches e h)) ≡ false → TablePassed p h (i + 1)
  table_unmatched m = header_unmatched (map counted p) h i (counted d) (counted e) inside there passed (ap (among headers h &&◌) (counted_matches e h) ∙ m)

pub table_ended : (p : List Entry) (h : Header) (i : ℕ) → length p ≤ i → TablePassed p h i → None ≡ header_catcher (map counted p) h
table_ended p h i l passed = header_ended (map counted p) h i (let k : length (map counted p) ≡ length p = length-map p counted in omega arith) passed

-- an empty table catches nothing
pub empty_catches_nothing : (h : Header) → header_catcher [] h ≡ None
empty_catches_nothing h = header_none (among headers h)

-- ---- a table read from a file

-- lookup in a file that is accepted answers as lookup in the table of its list
pub file_as_table : (s : List ℕ) (h : Header) (r : Result (Option ℕ) Refusal) (t : Option ℕ) → is_accepted (checks_of s list_limit) ≡ true
    → looked r ≡ lookup_of s h → t ≡ header_catcher (map counted (list_in s)) h → looked r ≡ accepted (caught_values t)
file_as_table s h r t g e f =
    let pass = accepted_passes (file_checks s list_limit) (accepted (count_in s ∷ [])) (file_refuses s list_limit) g in
    let good = passes (file_checks s list_limit) (accepted (count_in s ∷ [])) pass in
    e ∙ passes (file_checks s list_limit) (accepted (caught_values (header_catcher (list_in s) h))) pass
    ∙ ap (λ (k : Option ℕ). accepted (caught_values k))
    (sym (f ∙ ap (λ (p : List Entry). header_catcher p h) (counted_as_they_are 0 (list_in s) (accepted_tells s list_limit (count_in s) (sym good)).uncrossed)))

-- the same with the list that reading makes of the file
pub file_as_read : (s : List ℕ) (h : Header) (l : Entries) (r : Result (Option ℕ) Refusal) (t : Option ℕ) → is_accepted (checks_of s list_limit) ≡ true → l ≡ (reading_of s).1
    → looked r ≡ lookup_of s h → t ≡ header_catcher (map counted (held l)) h → looked r ≡ accepted (caught_values t)
file_as_read s h l r t g q e f =
    file_as_table s h r t g e
    (f ∙ ap (λ (p : List Entry). header_catcher (map counted p) h)
    (ap held (q ∙ ap (λ (b : Bool). cond b (listed (version_in s) (list_in s)) no_entries) g) ∙ held_listed (version_in s) (list_in s)))
