-- The lines of records: one record more.
-- Assumes nothing.
use Prim.Native.Nat.{ℕ, zero, suc, ◌+◌, ◌*◌}
use native.Mathlib.Numerals.{add-one}
use native.Mathlib.Omega.{arith}
use mathlib.Core.Path.{◌≡◌, sym, ◌∙◌, ap, ap₂}
use mathlib.Core.List.{List, ◌++◌, append-nil, append_assoc}
use lib.ListN.{length, take, drop}
use lib.Seq.{drop-drop, take-append_seam, drop-append_seam}
use Rattle.wire.specs.Format.{merged_version, record_size}
use Rattle.report.specs.Text.{ascii, hex}
use Rattle.report.specs.Report.{record_lines}

-- the line of a record's bytes
abbrev line : List ℕ → List ℕ
line s = hex s ++ ascii "\n"

abbrev size : ℕ
size = record_size merged_version

last_line : (n : ℕ) (s : List ℕ) → record_lines (suc n) s ≡ record_lines n s ++ line (take size (drop (size * n) s))
last_line zero s = append-nil (line (take size s))
last_line (suc n) s =
    ap (λ (l : List ℕ). line (take size s) ++ l) (last_line n (drop size s))
    ∙ sym (append_assoc (line (take size s)) (record_lines n (drop size s)) (line (take size (drop (size * n) (drop size s)))))
    ∙ ap (λ (l : List ℕ). record_lines (suc n) s ++ line (take size l)) (drop-drop (size * n) size s ∙ ap (λ (k : ℕ). drop k s) (next n))
  where
    next : (n : ℕ) → size + size * n ≡ size * suc n
    next n = omega arith

-- the next record of what is left
pub next_record : (n : ℕ) (s left r rest : List ℕ) → left ≡ drop (size * n) s → left ≡ r ++ rest → length r ≡ size
    → (record_lines (n + 1) s ≡ record_lines n s ++ line r) × (rest ≡ drop (size * (n + 1)) s)
next_record n s left r rest e f h = (
  ap (λ (k : ℕ). record_lines k s) (add-one n)
      ∙ last_line n s
      ∙ ap (λ (l : List ℕ). record_lines n s ++ line l) (ap₂ take (sym h) (sym e ∙ f) ∙ take-append_seam r rest),
  next,
)
  where
    along : (n : ℕ) → size * n + size ≡ size * (n + 1)
    along n = omega arith

    next : rest ≡ drop (size * (n + 1)) s
    next =
        sym (drop-append_seam r rest)
        ∙ ap₂ drop h (sym f ∙ e)
        ∙ drop-drop size (size * n) s
        ∙ ap (λ (k : ℕ). drop k s) (along n)
