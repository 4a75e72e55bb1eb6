-- Installing on the entries: each keeps its best-ranked action alone, one after the other.
-- Assumes nothing.
use Prim.Native.Nat.{ℕ, suc, ◌+◌, ◌<◌, ◌≤◌}
use native.Mathlib.Omega.{arith}
use native.Mathlib.Numerals.{add-one}
use mathlib.Core.Path.{◌≡◌, sym, ◌∙◌, ap, ap₂}
use mathlib.Core.List.{List, [], ◌∷◌, ◌++◌, map, map-append, append_assoc, append-nil}
use lib.ListN.{length, get_or, take, drop, set, length-map, drop_of_length-le}
use lib.Seq.{set_at, take-suc, drop-cons, length-take-le, take_all, get_or-append_seam}
use Rattle.policy.specs.declared.entry.Entry.{Entry}
use Rattle.reconcile.specs.Installing.{with_best}
use Rattle.wire.proofs.Lists.{zero_entry}

-- the first i entries of ds have been chosen, and the others stand as at the start
abbrev pub Chosen : List ℕ → List Entry → List Entry → ℕ → Type 0
Chosen ranking ds es i = es ≡ map (with_best ranking) (take i ds) ++ drop i ds

module _ (ranking : List ℕ) (ds es : List Entry) (i : ℕ) (m : Chosen ranking ds es i) (l : i < length ds) where
  abbrev front : List Entry
  front = map (with_best ranking) (take i ds)

  size : length front ≡ i
  size = length-map (take i ds) (with_best ranking) ∙ length-take-le i ds (omega arith)

  split : es ≡ front ++ get_or ds i zero_entry ∷ drop (suc i) ds
  split = m ∙ ap (front ++◌) (drop-cons ds i zero_entry l)

  there : get_or es i zero_entry ≡ get_or ds i zero_entry
  there = ap₂ (λ (p : List Entry) (k : ℕ). get_or p k zero_entry) split (sym size) ∙ get_or-append_seam front (get_or ds i zero_entry) (drop (suc i) ds) zero_entry

  pub chosen_more : (e : Entry) → e ≡ with_best ranking (get_or es i zero_entry) → Chosen ranking ds (set es i e) (i + 1)
  chosen_more e q =
      ap (λ (p : List Entry). set p i e) split
      ∙ set_at front (get_or ds i zero_entry) (drop (suc i) ds) e i size
      ∙ sym (append_assoc front (e ∷ []) (drop (suc i) ds))
      ∙ ap₂ ◌++◌
      (ap (λ (d : Entry). front ++ d ∷ []) (q ∙ ap (with_best ranking) there) ∙ sym (map-append (with_best ranking) (take i ds) (get_or ds i zero_entry ∷ [])) ∙ ap (map (with_best ranking)) (sym (ap (λ (k : ℕ). take k ds) (add-one i) ∙ take-suc ds i zero_entry l)))
      (ap (λ (k : ℕ). drop k ds) (sym (add-one i)))

pub chosen_all : (ranking : List ℕ) (ds es : List Entry) (i : ℕ) → Chosen ranking ds es i → length ds ≤ i → es ≡ map (with_best ranking) ds
chosen_all ranking ds es i m l =
    m ∙ ap₂ (λ (p q : List Entry). map (with_best ranking) p ++ q) (take_all i ds l) (drop_of_length-le ds l) ∙ append-nil (map (with_best ranking) ds)
