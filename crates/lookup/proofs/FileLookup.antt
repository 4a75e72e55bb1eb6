-- Lookup in a file, by the answer of its checks and what first match finds; and what lookup's answer tells of the record.
-- Assumes nothing.
use Rattle.std.specs.Prelude.{None, Option, Some, Result, Ok, Err}
use Prim.Native.Nat.{ℕ, suc, ◌+◌, ◌-◌, ◌<◌, ◌≤◌}
use native.Mathlib.Nat.{add_comm, zero-add}
use native.Mathlib.Omega.{arith}
use mathlib.Core.Path.{◌≡◌, refl, sym, ap, ◌∙◌}
use mathlib.Core.Bool.{Bool, true, false, cond}
use mathlib.Core.List.{List, [], ◌∷◌}
use lib.ListN.{length, get_or, take, drop, length-append}
use lib.Seq.{get_or-take, get_or-drop}
use denote.Ref.{Bor}
use Rattle.policy.specs.declared.header.Header.{Header}
use Rattle.policy.specs.declared.entry.Entry.{Entry}
use Rattle.policy.specs.declared.refusal.Refusal.{Refusal}
use Rattle.policy.specs.declared.refusal.Refusal.TheVariants.{Missized, Version, Count, Crossed}
use Rattle.policy.specs.Header.{among, headers}
use Rattle.policy.specs.Policy.{catcher}
use Rattle.policy.specs.Refusals.{Answer, refusal, accepted, is_accepted, refuse}
use Rattle.policy.proofs.Refusals.{Pass, Refuse, refuse_refuses, refusal_refuses, refused_stays, accepted_passes, passes}
use Rattle.policy.proofs.Policy.{caught_by}
use Rattle.wire.specs.Format.{record_size, list_limit, version_in, count_in, place_in, list_in, entry_at, entries_from}
use Rattle.wire.specs.steps.Numbered.{record_in}
use Rattle.wire.specs.Checks.{missized, bad_version, bad_count, first_crossed, refuse_entry, file_checks, checks_of, checked}
use Rattle.wire.proofs.Checked.{accepted_tells, good_tells, refused_tells}
use Rattle.wire.proofs.Entries.{same_entry, length_entries, first_at}
use Rattle.wire.proofs.Sizes.{entry_there}
use Rattle.lookup.specs.Lookup.{caught_values, header_catcher, looked, lookup_of, Part, record_part, no_part, part_for, lent_part}

-- an entry that catches a header has its number below the list's length
pub caught_below : (p : List Entry) (h : Header) (i : ℕ) → catcher p h ≡ Some i → i < length p
caught_below p h i e =
    let c = caught_by 0 p h i e in
    let w : length p ≡ length c.2.front + suc (length c.2.back) = ap length c.2.whole ∙ length-append c.2.front (c.2.entry ∷ c.2.back) in
    below (length p) (length c.2.front) (length c.2.back) c.0 i w c.2.place c.1
  where
    below : (n f b j i : ℕ) → n ≡ f + suc b → f ≡ j → i ≡ 0 + j → i < n
    below n f b j i w p e = omega arith

-- an entry that catches a combination of numbers is the catcher of Definition 3
header_caught : (p : List Entry) (h : Header) (i : ℕ) → header_catcher p h ≡ Some i → catcher p h ≡ Some i
header_caught p h i e = go (among headers h) e
  where
    go : (b : Bool) → cond b (catcher p h) None ≡ Some i → catcher p h ≡ Some i
    go true e = e
    go false e = absurd (let z : ◌≡◌ {A = ℕ} 0 1 = cc in omega arith)

-- ---- from the checks and first match to the answer

pub good_room : (s : List ℕ) (c : Result ℕ Refusal) (n : ℕ) → checked c ≡ checks_of s list_limit → c ≡ Ok n → place_in s n ≤ length s
good_room s c n e g = let z = (good_tells s list_limit c n e g).size in omega arith

module _ (s : List ℕ) (h : Header) (c : Result ℕ Refusal) (e : checked c ≡ checks_of s list_limit) where
  pub refused_answer : (x : Refusal) → c ≡ Err x → refusal x ≡ lookup_of s h
  refused_answer x g = refused_tells s list_limit c x e g [] (accepted (caught_values (header_catcher (list_in s) h)))

  module _ (n : ℕ) (g : c ≡ Ok n) (k : Option ℕ) (found : k ≡ header_catcher (entries_from s 0 n) h) where
    pub good_answer : accepted (caught_values k) ≡ lookup_of s h
    good_answer =
        let t = good_tells s list_limit c n e g in
        ap (λ (x : Option ℕ). accepted (caught_values x)) (found ∙ ap (λ (m : ℕ). header_catcher (entries_from s 0 m) h) (sym t.count_is))
        ∙ sym (t.passes [] (accepted (caught_values (header_catcher (list_in s) h))))

-- ---- from the answer to the record

pub file_refuses : (s : List ℕ) (limit : ℕ) → Refuse (file_checks s limit)
file_refuses s limit =
    let crossed = refuse_entry Crossed (first_crossed (list_in s)) ∷ [] in
    let count = refuse (bad_count s limit) Count ∷ crossed in
    let version = refuse (bad_version s) Version ∷ count in
    refuse_refuses (missized s) Missized version
    (refuse_refuses (bad_version s) Version count (refuse_refuses (bad_count s limit) Count crossed (crossed_refuses (first_crossed (list_in s)))))
  where
    crossed_refuses : (o : Option ℕ) → Refuse (refuse_entry Crossed o ∷ [])
    crossed_refuses (Some i) = (refl, tt)
    crossed_refuses None = tt

module _ (s : List ℕ) (h : Header) (l : Result (Option ℕ) Refusal) (e : looked l ≡ lookup_of s h) where
  -- an accepted answer: the file is good, and the values are those of Definition 3
  module _ (vs : List ℕ) (a : looked l ≡ accepted vs) where
    pass : Pass (file_checks s list_limit)
    pass = accepted_passes (file_checks s list_limit) (accepted (caught_values (header_catcher (list_in s) h))) (file_refuses s list_limit) (ap is_accepted (sym e ∙ a))

    good : checks_of s list_limit ≡ accepted (count_in s ∷ [])
    good = passes (file_checks s list_limit) (accepted (count_in s ∷ [])) pass

    values_are : vs ≡ caught_values (header_catcher (list_in s) h)
    values_are = ap (λ (x : Answer). x.values) (sym a ∙ e ∙ passes (file_checks s list_limit) (accepted (caught_values (header_catcher (list_in s) h))) pass)

    part_is : part_for s h ≡ record_part s (header_catcher (list_in s) h)
    part_is = ap (λ (x : Answer). cond (is_accepted x) (record_part s (header_catcher (list_in s) h)) no_part) good

  catcher_is : (i : ℕ) → l ≡ Ok (Some i) → header_catcher (list_in s) h ≡ Some i
  catcher_is i q = go (header_catcher (list_in s) h) refl (values_are (i ∷ []) (ap looked q))
    where
      go : (k : Option ℕ) → header_catcher (list_in s) h ≡ k → i ∷ [] ≡ caught_values k → k ≡ Some i
      go (Some j) u v = cc
      go None u v = absurd (let z : ◌≡◌ {A = ℕ} 0 1 = cc in omega arith)

  -- the record of the entry that was found lies in the file, and is the part
  pub record_fits : (i : ℕ) (c : Option ℕ) → l ≡ Ok c → c ≡ Some i → place_in s (i + 1) ≤ length s
  record_fits i c a b =
      let q : l ≡ Ok (Some i) = a ∙ ap Ok b in
      let f = caught_below (list_in s) h i (header_caught (list_in s) h i (catcher_is i q)) in
      let n = length_entries s 0 (count_in s) in
      let z = (accepted_tells s list_limit (count_in s) (sym (good (i ∷ []) (ap looked q)))).size in
      entry_there s i (count_in s) (omega arith) z

  -- its number is one of a list of up to 256
  pub entry_small : (i : ℕ) (c : Option ℕ) → l ≡ Ok c → c ≡ Some i → i < list_limit
  entry_small i c a b =
      let q : l ≡ Ok (Some i) = a ∙ ap Ok b in
      let f = caught_below (list_in s) h i (header_caught (list_in s) h i (catcher_is i q)) in
      let n = length_entries s 0 (count_in s) in
      let z = (accepted_tells s list_limit (count_in s) (sym (good (i ∷ []) (ap looked q)))).most_is in
      omega arith

  pub record_part_lem : (i : ℕ) (c : Option ℕ) → l ≡ Ok c → c ≡ Some i → record_part s (Some i) ≡ part_for s h
  record_part_lem i c a b = let q : l ≡ Ok (Some i) = a ∙ ap Ok b in sym (part_is (i ∷ []) (ap looked q) ∙ ap (record_part s) (catcher_is i q))

  -- where nothing catches, or the file is refused, there is no part
  pub uncaught_part : (c : Option ℕ) → l ≡ Ok c → c ≡ None → no_part ≡ part_for s h
  uncaught_part c a b = let q : l ≡ Ok None = a ∙ ap Ok b in sym (part_is [] (ap looked q) ∙ go (header_catcher (list_in s) h) (values_are [] (ap looked q)))
    where
      go : (k : Option ℕ) → [] ≡ caught_values k → record_part s k ≡ no_part
      go (Some j) v = absurd (let z : ◌≡◌ {A = ℕ} 0 1 = cc in omega arith)
      go None v = refl

  pub refused_part : (x : Refusal) → l ≡ Err x → no_part ≡ part_for s h
  refused_part x q =
      let r = refused_stays (file_checks s list_limit) (caught_values (header_catcher (list_in s) h)) x (accepted (count_in s ∷ [])) (ap looked (sym q) ∙ e) in
      sym (ap (λ (b : Bool). cond b (record_part s (header_catcher (list_in s) h)) no_part) (ap is_accepted (sym r) ∙ refusal_refuses x))

-- ---- the part that the code takes, `&file[a..e]`

part_lent : (f : Bor (List ℕ)) (a e : ℕ) (p : Part) → record { start = a; size = e - a } ≡ p
    → ◌≡◌ {A = (ℕ × ℕ) × List ℕ} ((f.ref_ptr.0, a + f.ref_ptr.1), take (e - a) (drop a f.now)) (lent_part f p)
part_lent f a e p q = ap (λ (o : ℕ). ((f.ref_ptr.0, o), take (e - a) (drop a f.now))) (add_comm a f.ref_ptr.1) ∙ ap (lent_part f) q

-- record i
pub record_lent : (f : Bor (List ℕ)) (i a n : ℕ) → a ≡ place_in f.now i → n ≡ record_size (version_in f.now)
    → ◌≡◌ {A = (ℕ × ℕ) × List ℕ} ((f.ref_ptr.0, a + f.ref_ptr.1), take (a + n - a) (drop a f.now)) (lent_part f (record_part f.now (Some i)))
record_lent f i a n e g = part_lent f a (a + n) (record_part f.now (Some i)) (λ j. record { start = e j; size = (whole a n ∙ g) j })
  where
    whole : (a n : ℕ) → a + n - a ≡ n
    whole a n = omega arith

-- nothing
pub nothing_lent : (f : Bor (List ℕ)) (p : Part) → no_part ≡ p → ◌≡◌ {A = (ℕ × ℕ) × List ℕ} ((f.ref_ptr.0, 0 + f.ref_ptr.1), take (0 - 0) (drop 0 f.now)) (lent_part f p)
nothing_lent f p q = part_lent f 0 0 p q

-- what a call handed back is the part
pub passed_on : (f : Bor (List ℕ)) (x : (ℕ × ℕ) × List ℕ) (p q : Part) → x ≡ lent_part f p → p ≡ q → x ≡ lent_part f q
passed_on f x p q e g = e ∙ ap (lent_part f) g

-- ---- the record that is handed back is the entry that catches the header

pub record_reads : (s : List ℕ) (i : ℕ) (d : Entry) → i < count_in s → entry_at (version_in s) (record_in s i) 0 ≡ get_or (list_in s) i d
record_reads s i d l =
    let a = place_in s i in
    let size = record_size (version_in s) in
    same_entry (version_in s) (record_in s i) s 0 a
    (λ j k. get_or-take size (drop a s) (0 + j) 0 (omega arith) ∙ get_or-drop a s (0 + j) 0 ∙ ap (λ (n : ℕ). get_or s (a + n) 0) (zero-add j))
    ∙ sym (first_at s (count_in s) i d l)
