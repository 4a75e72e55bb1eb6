-- Checks 1 to 5 of a file: check 5 decides after the others.
-- Assumes nothing.
use Rattle.std.specs.Prelude.{None, Option, Some, Result, Ok, Err}
use Rattle.std.proofs.Common.{◌≡◌, ℕ, ◌-◌, ◌*◌, ◌<◌, ◌≤◌, Bool, true, List, [], ◌∷◌, length, get_or, take, sym, ap, ◌∙◌, subst, ap₂, arith}
use Rattle.policy.specs.declared.header.Header.{Header}
use Rattle.policy.specs.declared.entry.Entry.{Entry}
use Rattle.policy.specs.declared.refusal.Refusal.{Refusal}
use Rattle.policy.specs.declared.refusal.Refusal.TheVariants.{Missized, Version, Count, Crossed, Gap}
use Rattle.policy.specs.steps.Boxes.{same_box}
use Rattle.policy.specs.Header.{arity, Box, lies, Headers, headers, everything}
use Rattle.policy.specs.Least.{least}
use Rattle.policy.specs.Entry.{selector}
use Rattle.policy.specs.Policy.{missed, Covering}
use Rattle.policy.specs.Refusals.{Answer, refusal, accepted, is_accepted, refuse, refuse_at}
use Rattle.policy.specs.steps.Rows.{row_size, row_at, rows_in}
use Rattle.policy.proofs.Box.{same_box_lem}
use Rattle.policy.proofs.Least.{least_none}
use Rattle.policy.proofs.Policy.{covering_by}
use Rattle.policy.proofs.Refusals.{Pass, Refuse, refusal-clash, refusal_refuses, refuse_refuses, at_refuses, accepted_passes, passes, at_passes, append_passes}
use Rattle.wire.specs.Format.{count_in, place_in, entries_from, list_in}
use Rattle.wire.specs.steps.Numbered.{entry_in}
use Rattle.wire.specs.Checks.{missized, bad_version, bad_count, first_crossed, refuse_entry, file_checks, checks_of, checked}
use Rattle.wire.proofs.Checked.{GoodFile, accepted_tells, good_tells, refused_tells}
use Rattle.wire.proofs.Entries.{length_entries, first_at}
use Rattle.region.specs.steps.Corner.{selector_in}
use Rattle.region.specs.ListChecks.{gap_of, list_checks}
use Rattle.region.specs.steps.Covering.{gap_checked, list_checks_of, InRows, Decoded}
use Rattle.region.proofs.Members.{catches}
use Rattle.policy.proofs.HeaderSet.{in_everything}

-- ---- check 5

-- a list that has every header in one entry has no gap
all_closes : (hs : Headers) (p : List Entry) (i : ℕ) → i < length p → selector_in p i ≡ everything → least hs (missed p) ≡ None
all_closes hs p i l e = least_none hs (missed p) λ h a. catches p i l h (ap (λ (b : Box). lies b h) e ∙ in_everything hs h a)

pub closed_by_all : (s : List ℕ) (n : ℕ) (t : Bool) → 1 ≤ n → t ≡ same_box arity (selector (entry_in s (n - 1))) everything
    → t ≡ true → gap_of (entries_from s 0 n) ≡ None
unfolding selector_in
closed_by_all s n t l e q =
    all_closes headers (entries_from s 0 n) (n - 1) (there n (length (entries_from s 0 n)) l (length_entries s 0 n))
    (ap selector (first_at s n (n - 1) (row_at [] 0) (last n l)) ∙ same_box_lem arity (selector (entry_in s (n - 1))) everything (sym e ∙ q))
  where
    last : (n : ℕ) → 1 ≤ n → n - 1 < n
    last n l = omega arith

    there : (n m : ℕ) → 1 ≤ n → m ≡ n → n - 1 < m
    there n m l e = omega arith

pub gap_refuses : (gap : Option Header) (n : ℕ) (h : Header) → gap ≡ Some h → refusal (Gap h) ≡ gap_checked gap n
gap_refuses gap n h e = ap (λ (g : Option Header). gap_checked g n) (sym e)

pub gap_passes : (gap : Option Header) (n : ℕ) → gap ≡ None → accepted (n ∷ []) ≡ gap_checked gap n
gap_passes gap n e = ap (λ (g : Option Header). gap_checked g n) (sym e)

-- the rows that a list was decoded into, as they are lent
pub decoded_lent : (rows : List ℕ) (p : List Entry) (n : ℕ) → rows_in (take (row_size * n) rows) ≡ p → rows_in (take (row_size * n - 0) rows) ≡ p
decoded_lent rows p n e = ap (λ (m : ℕ). rows_in (take m rows)) (all (row_size * n)) ∙ e
  where
    all : (m : ℕ) → m - 0 ≡ m
    all m = omega arith

pub decoded_gap : (rows : List ℕ) (p : List Entry) (gap : Option Header) → rows_in rows ≡ p → gap ≡ least headers (missed (rows_in rows)) → gap ≡ gap_of p
decoded_gap rows p gap e g = g ∙ ap gap_of e

-- ---- checks 1 to 5

module _ (s : List ℕ) (limit : ℕ) (r : Result ℕ Refusal) (e : checked r ≡ checks_of s limit) where
  pub good_size : (n : ℕ) → r ≡ Ok n → (length s ≡ place_in s n) × ((1 ≤ n) × (n ≤ limit))
  good_size n g = let f = good_tells s limit r n e g in (f.size, (f.least_is, f.most_is))

  pub file_refused : (x : Refusal) → r ≡ Err x → refusal x ≡ list_checks_of s limit
  unfolding list_checks_of
  file_refused x g = refused_tells s limit r x e g (refuse_at Gap (gap_of (list_in s)) ∷ []) (accepted (count_in s ∷ []))

  -- check 5 decides
  pub gap_decides : (n : ℕ) (gap : Option Header) (q : Result ℕ Refusal) → r ≡ Ok n → gap ≡ gap_of (entries_from s 0 n) → checked q ≡ gap_checked gap n → checked q ≡ list_checks_of s limit
  unfolding list_checks_of
  gap_decides n gap q g f c =
      let good = good_tells s limit r n e g in
      c
      ∙ ap₂ gap_checked (f ∙ ap (λ (k : ℕ). gap_of (entries_from s 0 k)) (sym good.count_is)) (sym good.count_is)
      ∙ sym (good.passes (refuse_at Gap (gap_of (list_in s)) ∷ []) (accepted (count_in s ∷ [])))

  -- and the rows are the list
  pub list_decoded : (n : ℕ) (gap : Option Header) (q : Result ℕ Refusal) (rows : List ℕ) → r ≡ Ok n → checked q ≡ gap_checked gap n
      → InRows rows n (entries_from s 0 n) → Decoded q rows (list_in s)
  list_decoded n gap (Err x) rows g c d = tt
  list_decoded n gap (Ok m) rows g c d = go gap c
    where
      go : (gap : Option Header) → accepted (m ∷ []) ≡ gap_checked gap n → Decoded (Ok m) rows (list_in s)
      go (Some h) c = refusal-clash (Gap h) (m ∷ []) (sym c)
      go None c =
          subst (λ (k : ℕ). Decoded (Ok k) rows (list_in s)) (sym (ap (λ (a : Answer). get_or a.values 0 0) c))
          (d.0, d.1 ∙ ap (entries_from s 0) (sym (good_tells s limit r n e g).count_is))

-- ---- what an answer of checks 1 to 5 tells

entry_refuses : (r : ℕ → Refusal) (c : Option ℕ) (rs : List (Option Answer)) → Refuse rs → Refuse (refuse_entry r c ∷ rs)
entry_refuses r (Some i) rs f = (refusal_refuses (r i), f)
entry_refuses r None rs f = f

pub list_refuses : (s : List ℕ) (limit : ℕ) → Refuse (list_checks s limit)
list_refuses s limit =
    refuse_refuses (missized s) Missized (refuse (bad_version s) Version ∷ refuse (bad_count s limit) Count ∷ refuse_entry Crossed (first_crossed (list_in s)) ∷ gap)
    (refuse_refuses (bad_version s) Version (refuse (bad_count s limit) Count ∷ refuse_entry Crossed (first_crossed (list_in s)) ∷ gap)
    (refuse_refuses (bad_count s limit) Count (refuse_entry Crossed (first_crossed (list_in s)) ∷ gap)
    (entry_refuses Crossed (first_crossed (list_in s)) gap
    (at_refuses Gap (gap_of (list_in s)) [] tt))))
  where
    gap : List (Option Answer)
    gap = refuse_at Gap (gap_of (list_in s)) ∷ []

-- where the rows of an accepted list end, and that they are the list, as they are lent
module _ (r : Result ℕ Refusal) (rows : List ℕ) (p : List Entry) (n : ℕ) (d : Decoded r rows p) (g : r ≡ Ok n) where
  told : Decoded (Ok n) rows p
  told = subst (λ (r : Result ℕ Refusal). Decoded r rows p) g d

  pub rows_fit : row_size * n ≤ length rows
  rows_fit = told.0

  pub rows_decoded : rows_in (take (row_size * n - 0) rows) ≡ p
  rows_decoded = decoded_lent rows p n told.1

-- a file that passes: it is a good one, and its list is covering
pub record GoodList (s : List ℕ) (limit : ℕ) : Type 0 where
  pub good : GoodFile s limit (count_in s)
  pub covering : Covering headers (list_in s)

pub passes_tell : (s : List ℕ) (limit : ℕ) → Pass (list_checks s limit) → GoodList s limit
passes_tell s limit p =
    let rows = append_passes (file_checks s limit) (refuse_at Gap (gap_of (list_in s)) ∷ []) p in
    record {
      good = accepted_tells s limit (count_in s) (sym (passes (file_checks s limit) (accepted (count_in s ∷ [])) rows.0));
      covering = covering_by headers (list_in s) (at_passes Gap (gap_of (list_in s)) [] rows.1).0;
    }

pub good_passes : (s : List ℕ) (limit : ℕ) (r : Result ℕ Refusal) (n : ℕ) → checked r ≡ list_checks_of s limit → r ≡ Ok n → Pass (list_checks s limit)
unfolding list_checks_of
good_passes s limit r n e g =
    accepted_passes (list_checks s limit) (accepted (count_in s ∷ [])) (list_refuses s limit) (ap is_accepted (sym e ∙ ap checked g))
