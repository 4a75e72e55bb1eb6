-- What a refusal for conflict names: the entries catch its header, and their sets have nothing in common.
-- Assumes nothing.
use Rattle.std.specs.Prelude.{None, Option, Some}
use Prim.Native.Nat.{ℕ, ◌+◌}
use native.Mathlib.Omega.{arith}
use mathlib.Core.Path.{◌≡◌, refl, sym, ◌∙◌, ap, ap₂}
use mathlib.Core.Logic.{inl, inr}
use mathlib.Core.Bool.{Bool, true, false, cond, ◌&&◌}
use mathlib.Core.List.{List, [], ◌∷◌, ◌++◌, append-nil}
use lib.Dec.{eqb}
use lib.ListN.{length, get_or}
use Rattle.policy.specs.declared.header.Header.{Header}
use Rattle.policy.specs.declared.entry.Entry.{Entry}
use Rattle.policy.specs.Actions.{has}
use Rattle.policy.specs.Header.{headers}
use Rattle.policy.specs.Policy.{catcher, allowed, caught}
use Rattle.policy.specs.Refusals.{Answer}
use Rattle.policy.proofs.Bool.{clash, not_true}
use Rattle.policy.proofs.Policy.{caught_by, uncaught_by, catches_allows}
use Rattle.wire.specs.Lists.{empty_entry}
use Rattle.reconcile.specs.Crossproduct.{In}
use Rattle.reconcile.specs.Rules.{conflict_of, permits, all_permit}
use Rattle.bench.specs.Book.{Book, in_force}
use Rattle.bench.specs.Answers.{also, entry_of, catchers_from, entries_at, entries_for}
use Rattle.bench.specs.Demand3.{NamesCatchers, in_all}

-- ---- the entries

entry_at : (front : List Entry) (e : Entry) (back : List Entry) (d : Entry) → get_or (front ++ e ∷ back) (length front) d ≡ e
entry_at [] e back d = refl
entry_at (x ∷ front) e back d = entry_at front e back d

-- the set of the entry that catches the header is what its list allows
set_allowed : (q : List Entry) (h : Header) (i : ℕ) → catcher q h ≡ Some i → (a : ℕ) → has a (get_or q i empty_entry).actions ≡ permits a (allowed q h)
set_allowed q h i e a =
    let c = caught_by 0 q h i e in
    let s = c.2 in
    sym (
    ap (permits a) (catches_allows q c.0 h s)
    ∙ ap (λ (x : Entry). has a x.actions) (
    sym (entry_at s.front s.entry s.back empty_entry)
    ∙ ap₂ (λ (l : List Entry) (n : ℕ). get_or l n empty_entry) (sym s.whole) (s.place ∙ same i c.0 c.1)
    )
    )
  where
    same : (i j : ℕ) → i ≡ 0 + j → j ≡ i
    same i j e = omega arith

-- where every list in force catches the header, its entries are named
pub named_catchers : (p : ℕ) (k : Book) (h : Header) → ((q : List Entry) → In q (in_force k) → caught q h ≡ true)
    → (sets : List ℕ) × NamesCatchers p k h (catchers_from p k h) sets × ((a : ℕ) → in_all a sets ≡ all_permit a (in_force k) h)
named_catchers p [] h c = ([], (refl, refl), λ a. refl)
named_catchers p (None ∷ k) h c = named_catchers (p + 1) k h c
named_catchers p (Some q ∷ k) h c = go (catcher q h) refl (named_catchers (p + 1) k h λ l i. c l (inr i))
  where
    go : (x : Option ℕ) → catcher q h ≡ x
        → (sets : List ℕ) × NamesCatchers (p + 1) k h (catchers_from (p + 1) k h) sets × ((a : ℕ) → in_all a sets ≡ all_permit a (in_force k) h)
        → (sets : List ℕ) × NamesCatchers p (Some q ∷ k) h (catchers_from p (Some q ∷ k) h) sets × ((a : ℕ) → in_all a sets ≡ all_permit a (in_force (Some q ∷ k)) h)
    go (Some i) e r = (
      (get_or q i empty_entry).actions ∷ r.0,
      (i, catchers_from (p + 1) k h, r.0, ap (λ (x : Option ℕ). entry_of p x ++ catchers_from (p + 1) k h) e, e, refl, r.1),
      λ a. ap₂ (◌&&◌) (set_allowed q h i e a) (r.2 a),
    )
    go None e r = clash (c q (inl refl)) (not_true (uncaught_by 0 q h e))

-- ---- an answer that is no conflict names nothing

pub also_none : (a : Answer) → also a [] ≡ a
also_none a = ap (λ (vs : List ℕ). record { number = a.number; values = vs }) (append-nil a.values)

module _ (k : Book) where
  pub names_none : (a : Answer) → eqb a.number 10 ≡ false → also a (entries_for k a) ≡ a
  names_none a n = ap (λ (b : Bool). also a (cond b (entries_at k (conflict_of headers (in_force k))) [])) n ∙ also_none a

  pub named_none : (a r : Answer) → eqb r.number 10 ≡ false → also a (entries_for k a) ≡ r → a ≡ r
  named_none a r n e = sym (names_none a (ap (λ (x : Answer). eqb x.number 10) e ∙ n)) ∙ e
