-- Another set than a given one, in a list whose entries have no other and in one that is searched.
-- Assumes nothing.
use Rattle.std.specs.Prelude.{None, Option}
use Rattle.std.proofs.Common.{◌≡◌, ℕ, zero, suc, ◌+◌, ◌<◌, ◌≤◌, Bool, true, false, cond, not, List, [], ◌∷◌, sym, refl, ap, subst, arith, eq-eqb}
use mathlib.Core.Path.{fun_ext}
use Rattle.policy.specs.declared.header.Header.{Header}
use Rattle.policy.specs.declared.entry.Entry.{Entry}
use Rattle.policy.specs.Header.{Box, headers}
use Rattle.policy.specs.Least.{least_in}
use Rattle.policy.specs.Entry.{matches}
use Rattle.policy.specs.Policy.{actions, is_caught, allowed, missed}
use Rattle.wire.specs.Format.{entries_from}
use Rattle.wire.specs.steps.Numbered.{entry_in}
use Rattle.region.specs.declared.search.Want.TheVariants.{Differs}
use Rattle.region.specs.steps.Treated.{OneSet, Finds}
use Rattle.region.specs.Search.{differs_from, treated}
use Rattle.region.proofs.Catching.{finds_uncaught}

-- ---- entries with one set

-- the header differs if no entry catches it
one_set : (a : ℕ) (p : List Entry) (h : Header) → OneSet a p → differs_from a (allowed p h) ≡ missed p h
one_set a [] h o = refl
one_set a (e ∷ p) h o = go (matches e h) (one_set a p h o.1)
  where
    go : (m : Bool) → differs_from a (allowed p h) ≡ missed p h → differs_from a (cond m (actions e.actions) (allowed p h)) ≡ not (is_caught (cond m (actions e.actions) (allowed p h)))
    go true r = ap not (eq-eqb e.actions a o.0)
    go false r = r

pub differs_if_missed : (a : ℕ) (p : List Entry) (x : Box) (t : Bool) (found : Option Header) → (t ≡ true → OneSet a p) → t ≡ true → found ≡ least_in headers x (missed p)
    → Finds p (least_in headers x (treated (Differs a) p)) None (record { found = found; by = None })
differs_if_missed a p x t found o q f =
    subst (λ (l : Option Header). Finds p l None (record { found = found; by = None })) (ap (least_in headers x) (fun_ext λ h. sym (one_set a p h (o q)))) (finds_uncaught x p found f)

-- the records from number i on
all_from : (s : List ℕ) (a m i : ℕ) → ((j : ℕ) → i ≤ j → j < i + m → (entry_in s j).actions ≡ a) → OneSet a (entries_from s i m)
all_from s a zero i h = tt
all_from s a (suc m) i h = (h i (omega arith) (omega arith), all_from s a m (i + 1) λ j l k. h j (omega arith) (omega arith))

pub all_one_set : (s : List ℕ) (a n : ℕ) → ((j : ℕ) → j < n → (entry_in s j).actions ≡ a) → OneSet a (entries_from s 0 n)
all_one_set s a n h = all_from s a n 0 λ j l k. h j (omega arith)
