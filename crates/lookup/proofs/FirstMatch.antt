-- First match, entry by entry: what a loop over a list knows before entry i, and what entry i adds.
-- Assumes nothing.
use Rattle.std.specs.Prelude.{None, Some}
use Prim.Native.Nat.{ℕ, suc, ◌+◌, ◌<◌, ◌≤◌}
use native.Mathlib.Numerals.{add-one}
use mathlib.Core.Path.{◌≡◌, sym, ap, ◌∙◌}
use mathlib.Core.Bool.{Bool, true, false, cond}
use mathlib.Core.List.{List, ◌∷◌}
use lib.ListN.{length, get_or, drop, drop_of_length-le}
use lib.Seq.{drop-cons}
use Rattle.policy.specs.declared.header.Header.{Header}
use Rattle.policy.specs.declared.entry.Entry.{Entry}
use Rattle.policy.specs.Entry.{matches}
use Rattle.policy.specs.Policy.{catcher, catcher_from}

-- none of the entries before i matches h: what catches h is the first from i on
abbrev pub Passed : List Entry → Header → ℕ → Type 0
Passed p h i = catcher p h ≡ catcher_from i (drop i p) h

-- entry i, which is e; d stands for what a list has past its end
module _ (p : List Entry) (h : Header) (i : ℕ) (d e : Entry) (l : i < length p) (at : get_or p i d ≡ e) (passed : Passed p h i) where
  at_i : catcher p h ≡ cond (matches e h) (Some i) (catcher_from (i + 1) (drop (suc i) p) h)
  at_i = passed ∙ ap (λ (q : List Entry). catcher_from i q h) (drop-cons p i d l ∙ ap (◌∷ drop (suc i) p) at)

  -- it matches
  pub matched : matches e h ≡ true → Some i ≡ catcher p h
  matched m = sym (at_i ∙ ap (λ (b : Bool). cond b (Some i) (catcher_from (i + 1) (drop (suc i) p) h)) m)

  -- it does not
  pub unmatched : matches e h ≡ false → Passed p h (i + 1)
  unmatched m =
      at_i ∙ ap (λ (b : Bool). cond b (Some i) (catcher_from (i + 1) (drop (suc i) p) h)) m
      ∙ ap (λ (n : ℕ). catcher_from (i + 1) (drop n p) h) (sym (add-one i))

-- no entry is left
pub ended : (p : List Entry) (h : Header) (i : ℕ) → length p ≤ i → Passed p h i → None ≡ catcher p h
ended p h i l passed = sym (passed ∙ ap (λ (q : List Entry). catcher_from i q h) (drop_of_length-le p l))
