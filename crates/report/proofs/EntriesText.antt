-- The entries that a conflict names, as text.
-- Assumes nothing.
use Rattle.std.specs.Prelude.{None, Option, Some}
use Prim.Native.Nat.{ℕ, suc, ◌+◌, ◌<◌}
use native.Mathlib.Omega.{arith}
use mathlib.Core.Path.{◌≡◌, refl, sym, ◌∙◌, ap, ap₂}
use mathlib.Core.List.{List, [], ◌∷◌, ◌++◌, append-nil, append_assoc}
use Rattle.std.proofs.Common.{length, get_or, take, length-take-le}
use Rattle.std.proofs.lemmas.List.{take_more}
use Rattle.bench.specs.Answers.{entry_of, named_from}
use Rattle.report.specs.Text.{ascii, decimal}
use Rattle.report.specs.Report.{entries_text}

-- the text of a party's entry, and what follows
entry_text : (p : ℕ) (c : Option ℕ) (vs : List ℕ) → entries_text (entry_of p c ++ vs) ≡ entries_text (entry_of p c) ++ entries_text vs
entry_text p None vs = refl
entry_text p (Some i) vs = ap (λ (l : List ℕ). l ++ entries_text vs) (sym (append-nil (ascii " " ++ decimal p ++ ascii ":" ++ decimal i)))

-- one party more
one_more : (p : ℕ) (ns : List (Option ℕ)) (n : Option ℕ) → entries_text (named_from p (ns ++ n ∷ [])) ≡ entries_text (named_from p ns) ++ entries_text (entry_of (p + length ns) n)
one_more p [] n = ap entries_text (append-nil (entry_of p n) ∙ ap (λ (m : ℕ). entry_of m n) (last p))
  where
    last : (p : ℕ) → p ≡ p + 0
    last p = omega arith
one_more p (m ∷ ns) n =
    entry_text p m (named_from (p + 1) (ns ++ n ∷ []))
    ∙ ap (λ (l : List ℕ). entries_text (entry_of p m) ++ l) (one_more (p + 1) ns n)
    ∙ sym (append_assoc (entries_text (entry_of p m)) (entries_text (named_from (p + 1) ns)) (entries_text (entry_of (p + 1 + length ns) n)))
    ∙ ap₂ (λ (l : List ℕ) (q : ℕ). l ++ entries_text (entry_of q n)) (sym (entry_text p m (named_from (p + 1) ns))) (onward p (length ns))
  where
    onward : (p k : ℕ) → p + 1 + k ≡ p + suc k
    onward p k = omega arith

-- one party more of an array of them
pub named_more : (ns : List (Option ℕ)) (d : Option ℕ) (i : ℕ) → i < length ns
    → entries_text (named_from 1 (take (i + 1) ns)) ≡ entries_text (named_from 1 (take i ns)) ++ entries_text (entry_of (i + 1) (get_or ns i d))
named_more ns d i l =
    ap (λ (l : List (Option ℕ)). entries_text (named_from 1 l)) (take_more ns i d l)
    ∙ one_more 1 (take i ns) (get_or ns i d)
    ∙ ap (λ (k : ℕ). entries_text (named_from 1 (take i ns)) ++ entries_text (entry_of k (get_or ns i d))) (place (length (take i ns)) (length-take-le i ns (omega arith)))
  where
    place : (k : ℕ) → k ≡ i → 1 + k ≡ i + 1
    place k e = omega arith
