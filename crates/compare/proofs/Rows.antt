-- The checks of two files in their order, each said of its file.
-- Assumes nothing.
use Rattle.std.specs.Prelude.{None, Option, Some, Result, Ok, Err}
use Prim.Native.Nat.{ℕ}
use mathlib.Core.Path.{◌≡◌, refl, sym, ◌∙◌, ap, ap₂, subst}
use mathlib.Core.List.{List, [], ◌∷◌, ◌++◌, map, append-nil}
use Rattle.policy.specs.declared.header.Header.{Header}
use Rattle.policy.specs.declared.entry.Entry.{Entry}
use Rattle.policy.specs.declared.refusal.Refusal.{Refusal}
use Rattle.policy.specs.Header.{headers}
use Rattle.policy.specs.Policy.{Covering}
use Rattle.policy.specs.Refusals.{Answer, refusal, accepted, first_of}
use Rattle.policy.proofs.Refusals.{Pass, refusal-clash}
use Rattle.wire.specs.Format.{list_limit, count_in, list_in}
use Rattle.wire.specs.Checks.{checked}
use Rattle.region.specs.ListChecks.{list_checks}
use Rattle.region.specs.steps.Covering.{list_checks_of}
use Rattle.region.proofs.ListChecks.{passes_tell, good_passes}
use Rattle.compare.specs.declared.files.RefusedFile.TheVariants.{First, Second}
use Rattle.compare.specs.Comparison.{ComparisonAnswer, compared, about, excess_of, verdict, comparison_of}

-- a refusal is said of its file, whatever comes after
refused_first : (k : ℕ) (rs : List (Option Answer)) (vs : List ℕ) (x : Refusal) (qs : List (Option ComparisonAnswer)) (a : ComparisonAnswer)
    → refusal x ≡ first_of rs (accepted vs) → record { file = k; answer = refusal x } ≡ first_of (map (about k) rs ++ qs) a
refused_first k [] vs x qs a e = refusal-clash x vs e
refused_first k (Some y ∷ rs) vs x qs a e = ap (λ (y : Answer). record { file = k; answer = y }) e
refused_first k (None ∷ rs) vs x qs a e = refused_first k rs vs x qs a e

-- where none refuses, what comes after decides
passed_first : (k : ℕ) (rs : List (Option Answer)) (qs : List (Option ComparisonAnswer)) (a : ComparisonAnswer) → Pass rs → first_of (map (about k) rs ++ qs) a ≡ first_of qs a
passed_first k [] qs a p = refl
passed_first k (Some y ∷ rs) qs a p = absurd p
passed_first k (None ∷ rs) qs a p = passed_first k rs qs a p

module _ (s t : List ℕ) where
  pub first_refused : (r : Result ℕ Refusal) (x : Refusal) → checked r ≡ list_checks_of s list_limit → r ≡ Err x → compared (Err (First x)) ≡ comparison_of s t
  unfolding comparison_of list_checks_of
  first_refused r x e g =
      refused_first 1 (list_checks s list_limit) (count_in s ∷ []) x (map (about 2) (list_checks t list_limit)) (verdict (excess_of (list_in s) (list_in t))) (sym (ap checked g) ∙ e)

  module _ (r : Result ℕ Refusal) (n : ℕ) (e : checked r ≡ list_checks_of s list_limit) (g : r ≡ Ok n) where
    second_decides : first_of (map (about 2) (list_checks t list_limit)) (verdict (excess_of (list_in s) (list_in t))) ≡ comparison_of s t
    unfolding comparison_of
    second_decides =
        sym (passed_first 1 (list_checks s list_limit) (map (about 2) (list_checks t list_limit)) (verdict (excess_of (list_in s) (list_in t))) (good_passes s list_limit r n e g))

    -- the second list is covering, as least_excess needs it
    pub second_covers : (q : Result ℕ Refusal) (m : ℕ) (p : List Entry) → checked q ≡ list_checks_of t list_limit → q ≡ Ok m → p ≡ list_in t → Covering headers p
    second_covers q m p f h d = subst (Covering headers) (sym d) (passes_tell t list_limit (good_passes t list_limit q m f h)).covering

    pub second_refused : (q : Result ℕ Refusal) (x : Refusal) → checked q ≡ list_checks_of t list_limit → q ≡ Err x → compared (Err (Second x)) ≡ comparison_of s t
    unfolding list_checks_of
    second_refused q x f h =
        refused_first 2 (list_checks t list_limit) (count_in t ∷ []) x [] (verdict (excess_of (list_in s) (list_in t))) (sym (ap checked h) ∙ f)
        ∙ ap (λ (l : List (Option ComparisonAnswer)). first_of l (verdict (excess_of (list_in s) (list_in t)))) (append-nil (map (about 2) (list_checks t list_limit)))
        ∙ second_decides

    module _ (q : Result ℕ Refusal) (m : ℕ) (f : checked q ≡ list_checks_of t list_limit) (h : q ≡ Ok m) (c : Option Header) (x y : List Entry)
        (u : x ≡ list_in s) (v : y ≡ list_in t) (w : c ≡ excess_of x y) where
      pub both_good : verdict c ≡ comparison_of s t
      both_good =
          ap verdict (w ∙ ap₂ excess_of u v)
          ∙ sym (passed_first 2 (list_checks t list_limit) [] (verdict (excess_of (list_in s) (list_in t))) (good_passes t list_limit q m f h))
          ∙ ap (λ (l : List (Option ComparisonAnswer)). first_of l (verdict (excess_of (list_in s) (list_in t)))) (append-nil (map (about 2) (list_checks t list_limit)))
          ∙ second_decides
