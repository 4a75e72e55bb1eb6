-- The numbers and bytes that C gets for each answer.
-- Assumes nothing.
use Rattle.std.specs.Prelude.{Result, Ok, Err, Some, None, Option}
use Prim.Native.Nat.{ℕ, ◌+◌, ◌*◌, ◌^◌, ◌<◌}
use native.Mathlib.Omega.{arith}
use mathlib.Core.Path.{◌≡◌, sym, ◌∙◌, ap}
use mathlib.Core.Bool.{Bool, cond, ◌&&◌}
use mathlib.Core.List.{List}
use mir.Syntax.{w32}
use mir.Val.{Fits}
use Rattle.policy.specs.declared.header.Header.{Header}
use Rattle.policy.specs.declared.refusal.Refusal.{Refusal}
use Rattle.policy.specs.Refusals.{refusal, numbers}
use Rattle.policy.proofs.Refusals.{refusal_refuses}
use Rattle.wire.specs.Format.{header_put}
use Rattle.lookup.specs.Lookup.{looked, lookup_of}
use Rattle.lookup.proofs.FileLookup.{entry_small}
use Rattle.compare.specs.declared.files.RefusedFile.{RefusedFile}
use Rattle.compare.specs.declared.files.RefusedFile.TheVariants.{First, Second}
use Rattle.compare.specs.Comparison.{ComparisonAnswer, compared, comparison_of}
use Rattle.gateway.specs.Exports.{first_value, lookup_number, has_header, comparison_number, header_lent}

-- ---- lookup

module _ (s : List ℕ) (h : Header) (l : Result (Option ℕ) Refusal) (e : looked l ≡ lookup_of s h) where
  pub entry_number : (i : ℕ) (c : Option ℕ) → l ≡ Ok c → c ≡ Some i → i ≡ lookup_number (lookup_of s h)
  entry_number i c a b = ap lookup_number (ap looked (sym (a ∙ ap Ok b)) ∙ e)

  pub uncaught_number : (c : Option ℕ) → l ≡ Ok c → c ≡ None → 256 ≡ lookup_number (lookup_of s h)
  uncaught_number c a b = ap lookup_number (ap looked (sym (a ∙ ap Ok b)) ∙ e)

  pub refused_number : (r : Refusal) (n : ℕ) → l ≡ Err r → n ≡ (refusal r).number → 256 + n ≡ lookup_number (lookup_of s h)
  refused_number r n q m =
      ap (256 +◌) m
      ∙ sym (ap (λ (b : Bool). cond b (first_value (refusal r).values 256) (256 + (refusal r).number)) (refusal_refuses r))
      ∙ ap lookup_number (ap looked (sym q) ∙ e)

-- ---- comparison

abbrev pub Exported : Type 0
Exported = ℕ × List ℕ

abbrev pub exported : ComparisonAnswer → List ℕ → Exported
exported a buffer = (comparison_number a, header_lent a buffer)

module _ (s t buffer : List ℕ) (r : Result (Option Header) RefusedFile) (e : compared r ≡ comparison_of s t) where
  pub says_yes : (c : Option Header) → r ≡ Ok c → c ≡ None → ◌≡◌ {A = Exported} (0, buffer) (exported (comparison_of s t) buffer)
  says_yes c a b = ap (λ (a : ComparisonAnswer). exported a buffer) (ap compared (sym (a ∙ ap Ok b)) ∙ e)

  pub says_no : (h : Header) (after : List ℕ) (c : Option Header) → r ≡ Ok c → c ≡ Some h → after ≡ header_put (numbers h) buffer → ◌≡◌ {A = Exported} (1, after) (exported (comparison_of s t) buffer)
  says_no h after c a b p = ap (λ (b : List ℕ). (1, b)) p ∙ ap (λ (a : ComparisonAnswer). exported a buffer) (ap compared (sym (a ∙ ap Ok b)) ∙ e)

  refused_as : (k n : ℕ) (x : Refusal) → n ≡ (refusal x).number → record { file = k; answer = refusal x } ≡ comparison_of s t
      → ◌≡◌ {A = Exported} (k * 256 + n, buffer) (exported (comparison_of s t) buffer)
  refused_as k n x m q =
      ap (λ (i : ℕ). (k * 256 + i, buffer)) m
      ∙ sym (ap (λ (b : Bool). (cond b (cond (has_header (refusal x).values) 1 0) (k * 256 + (refusal x).number), cond (b && has_header (refusal x).values) (header_put (refusal x).values buffer) buffer)) (refusal_refuses x))
      ∙ ap (λ (a : ComparisonAnswer). exported a buffer) q

  pub refuses_first : (x : Refusal) (n : ℕ) (f : RefusedFile) → r ≡ Err f → f ≡ First x → n ≡ (refusal x).number → ◌≡◌ {A = Exported} (256 + n, buffer) (exported (comparison_of s t) buffer)
  refuses_first x n f a b m = refused_as 1 n x m (ap compared (sym (a ∙ ap Err b)) ∙ e)

  pub refuses_second : (x : Refusal) (n : ℕ) (f : RefusedFile) → r ≡ Err f → f ≡ Second x → n ≡ (refusal x).number → ◌≡◌ {A = Exported} (512 + n, buffer) (exported (comparison_of s t) buffer)
  refuses_second x n f a b m = refused_as 2 n x m (ap compared (sym (a ∙ ap Err b)) ∙ e)

-- ---- the numbers fit 32 bits

pub entry_fits : (s : List ℕ) (h : Header) (l : Result (Option ℕ) Refusal) (i : ℕ) (c : Option ℕ) → looked l ≡ lookup_of s h → l ≡ Ok c → c ≡ Some i → Fits w32 i
entry_fits s h l i c e a b = record { fits = small i (entry_small s h l e i c a b) }
  where
    small : (i : ℕ) → i < 256 → i < 2 ^ 32
    small i l = omega arith
