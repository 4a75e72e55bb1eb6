-- Text put into a buffer: none, a byte, and one text behind another, which is the two as one text.
-- Assumes nothing.
use Prim.Native.Nat.{ℕ, zero, suc, ◌+◌, ◌<◌, min}
use native.Mathlib.Nat.{zero-add, suc-add, sub-zero, zero-sub, suc-sub-suc, zero-min, suc-min-suc}
use native.Mathlib.Omega.{arith}
use mathlib.Core.Path.{◌≡◌, refl, sym, ◌∙◌, ap, subst}
use mathlib.Core.List.{List, [], ◌∷◌, ◌++◌}
use lib.ListN.{length, set, length-append}
use lib.Seq.{take-nil, drop-nil}
use Rattle.report.specs.Text.{with_text}
use Rattle.report.specs.declared.page.Page.{Page}
use Rattle.report.specs.steps.Printed.{Printed}
use Rattle.report.specs.steps.Puts.{Puts}

-- the same, byte over byte
over : List ℕ → ℕ → List ℕ → List ℕ
over [] at s = []
over (o ∷ out) zero [] = o ∷ out
over (o ∷ out) zero (b ∷ s) = b ∷ over out zero s
over (o ∷ out) (suc at) s = o ∷ over out at s

is_over : (out : List ℕ) (at : ℕ) (s : List ℕ) → with_text out at s ≡ over out at s
unfolding over
is_over [] at s = simp (take-nil, drop-nil, zero-sub)
is_over (o ∷ out) zero [] = simp take-nil
is_over (o ∷ out) zero (b ∷ s) = simp (sub-zero, zero-add) (ap (b ∷◌) (simp (sub-zero, zero-add) at (is_over out zero s)))
is_over (o ∷ out) (suc at) s = simp (suc-sub-suc, suc-add) (ap (o ∷◌) (is_over out at s))

over_length : (out : List ℕ) (at : ℕ) (s : List ℕ) → length (over out at s) ≡ length out
unfolding over
over_length [] at s = refl
over_length (o ∷ out) zero [] = refl
over_length (o ∷ out) zero (b ∷ s) = ap suc (over_length out zero s)
over_length (o ∷ out) (suc at) s = ap suc (over_length out at s)

over_more : (out : List ℕ) (at : ℕ) (s t : List ℕ) → over (over out at s) (at + length s) t ≡ over out at (s ++ t)
unfolding over
over_more [] at s t = refl
over_more (o ∷ out) zero [] t = refl
over_more (o ∷ out) zero (b ∷ s) t = simp (zero-add) (ap (b ∷◌) (simp (zero-add) at (over_more out zero s t)))
over_more (o ∷ out) (suc at) s t = simp (suc-add) (ap (o ∷◌) (over_more out at s t))

-- a place past the end is as good as the end
over_end : (out : List ℕ) (at : ℕ) (s : List ℕ) → over out (min at (length out)) s ≡ over out at s
unfolding over
over_end [] at s = refl
over_end (o ∷ out) zero s = simp zero-min
over_end (o ∷ out) (suc at) s = simp suc-min-suc (ap (o ∷◌) (over_end out at s))

over_set : (out : List ℕ) (at b : ℕ) → over out at (b ∷ []) ≡ set out at b
unfolding over
over_set [] at b = refl
over_set (o ∷ []) zero b = refl
over_set (o ∷ p ∷ out) zero b = refl
over_set (o ∷ out) (suc at) b = ap (o ∷◌) (over_set out at b)

over_none : (out : List ℕ) (at : ℕ) → over out at [] ≡ out
unfolding over
over_none [] at = refl
over_none (o ∷ out) zero = refl
over_none (o ∷ out) (suc at) = ap (o ∷◌) (over_none out at)

-- ---- printing

pub byte : (out : List ℕ) (at b : ℕ) → at < length out → Printed out at (b ∷ []) (set out at b) (at + 1)
byte out at b h = record { contents = sym (is_over out at (b ∷ []) ∙ over_set out at b); end = omega arith }

-- the buffer keeps its length
keeps : {out after : List ℕ} {at next : ℕ} {s : List ℕ} → Printed out at s after next → length after ≡ length out
keeps {out} {at = at} {s = s} p = ap length (p.contents ∙ is_over out at s) ∙ over_length out at s

-- one text behind another is the two as one text
printed_more : {out after last : List ℕ} {at next end : ℕ} {s t : List ℕ} → Printed after next t last end → Printed out at s after next → Printed out at (s ++ t) last end
printed_more {out} {after} {last} {at} {next} {end} {s} {t} q p = record {
  contents =
      q.contents
      ∙ is_over after next t
      ∙ ap (λ (n : ℕ). over after n t) (p.end ∙ ap (min (at + length s)) (sym (keeps p)))
      ∙ over_end after (at + length s) t
      ∙ ap (λ (l : List ℕ). over l (at + length s) t) (p.contents ∙ is_over out at s)
      ∙ over_more out at s t
      ∙ sym (is_over out at (s ++ t));
  end = omega (arith, keeps p, p.end, q.end, length-append s t);
}

-- ---- on a page

pub none : (a : Page) → Puts a a []
none a = record {
  buffer = refl;
  printed = record { contents = sym (is_over a.out.now a.at [] ∙ over_none a.out.now a.at); end = omega (arith, a.inside) };
}

pub more : {a b c : Page} {s t : List ℕ} → Puts b c t → Puts a b s → Puts a c (s ++ t)
more q p = record { buffer = q.buffer ∙ p.buffer; printed = printed_more q.printed p.printed }

pub same : {a b : Page} {s t : List ℕ} → Puts a b s → s ≡ t → Puts a b t
same {a} {b} p e = subst (Puts a b) e p
