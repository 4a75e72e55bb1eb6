-- Rows put one after the other at the start of a slice.
-- Assumes nothing.
use Prim.Native.Nat.{ℕ, ◌+◌, ◌*◌, ◌≤◌}
use native.Mathlib.Omega.{arith}
use mathlib.Core.Path.{◌≡◌, sym, ◌∙◌, ap}
use mathlib.Core.List.{List, [], ◌∷◌, ◌++◌, append-nil}
use lib.ListN.{length, take, drop}
use lib.Seq.{paste, take_at}
use Rattle.policy.specs.declared.entry.Entry.{Entry}
use Rattle.policy.specs.steps.Rows.{row_size, rows_in, numbers_of, all_numbers}
use Rattle.policy.proofs.Numbers.{length_numbers, numbers_in_lem, numbers_append}
use Rattle.wire.specs.Format.{entries_from}
use Rattle.wire.specs.steps.Numbered.{entry_in}
use Rattle.wire.specs.Writing.{placed}
use Rattle.wire.proofs.Entries.{length_entries, entries_split}
use Rattle.wire.proofs.Writing.{placed_next}

-- the rows of the entries are put at the start of b, which makes c
abbrev pub Put : List ℕ → List Entry → List ℕ → Type 0
Put b es c = c ≡ placed (all_numbers es) b

pub put_next : (b c d : List ℕ) (es : List Entry) (e : Entry) (i : ℕ) → length es ≡ i → Put b es c → d ≡ paste c (row_size * i) (numbers_of e) row_size → Put b (es ++ (e ∷ [])) d
put_next b c d es e i l p h =
    h
    ∙ placed_next b (all_numbers es) (numbers_of e) c (row_size * i) (length_numbers es ∙ ap (row_size *◌) l) p
    ∙ ap (λ (w : List ℕ). placed w b) (sym (numbers_append es (e ∷ []) ∙ ap (all_numbers es ++◌) (append-nil (numbers_of e))))

-- then the first rows of c are the entries
pub put_all : (b c : List ℕ) (es : List Entry) (n : ℕ) → length es ≡ n → Put b es c → rows_in (take (row_size * n) c) ≡ es
put_all b c es n l p =
    ap (λ (c : List ℕ). rows_in (take (row_size * n) c)) p
    ∙ ap rows_in (take_at (all_numbers es) (drop (length (all_numbers es)) b) (row_size * n) (length_numbers es ∙ ap (row_size *◌) l))
    ∙ numbers_in_lem es

-- ---- the entries of a file, in turn

module _ (s b : List ℕ) (from : ℕ) where
  pub entries_next : (c d : List ℕ) (i : ℕ) (e : Entry) → e ≡ entry_in s (from + i) → Put b (entries_from s from i) c → d ≡ paste c (row_size * i) (numbers_of e) row_size
      → Put b (entries_from s from (i + 1)) d
  entries_next c d i e r p h =
      put_next b c d (entries_from s from i) e i (length_entries s from i) p h
      ∙ ap (λ (es : List Entry). placed (all_numbers es) b) (ap (λ (x : Entry). entries_from s from i ++ x ∷ []) r ∙ sym (entries_split s from i 1))

  pub entries_all : (c : List ℕ) (n i : ℕ) → i ≤ n → n ≤ i → Put b (entries_from s from i) c → rows_in (take (row_size * n) c) ≡ entries_from s from n
  entries_all c n i l m p =
      let e : i ≡ n = omega arith in
      put_all b c (entries_from s from n) n (length_entries s from n) (p ∙ ap (λ (k : ℕ). placed (all_numbers (entries_from s from k)) b) e)
