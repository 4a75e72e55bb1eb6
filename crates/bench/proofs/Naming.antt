-- What the code names of each party.
-- Assumes nothing.
use Rattle.reconcile.specs.declared.ending.Merged.{Merged}
use Rattle.std.specs.Prelude.{Ok, None, Option, Some, Result, Err}
use Prim.Native.Nat.{ℕ, ◌+◌, ◌<◌, ◌≤◌}
use native.Mathlib.Omega.{arith}
use native.Mathlib.Numerals.{add-one}
use mathlib.Core.Path.{◌≡◌, refl, sym, ◌∙◌, ap, ap₂}
use mathlib.Core.Bool.{Bool, true, false, cond}
use mathlib.Core.List.{List, [], ◌∷◌, ◌++◌, map}
use lib.Dec.{eqb}
use lib.ListN.{length, get_or, take, set, length-set, length-map, get_or-map}
use lib.Seq.{take-suc, take-suc-set, take_all}
use Rattle.policy.specs.declared.header.Header.{Header}
use Rattle.policy.specs.declared.entry.Entry.{Entry}
use Rattle.policy.specs.declared.refusal.Refusal.{Refusal}
use Rattle.policy.specs.declared.refusal.Refusal.TheVariants.{Conflict}
use Rattle.policy.specs.Policy.{catcher}
use Rattle.policy.specs.Header.{headers}
use Rattle.policy.specs.Refusals.{Answer, refusal}
use Rattle.reconcile.specs.Rules.{conflict_of}
use Rattle.reconcile.specs.steps.Ending.{ending}
use Rattle.bench.specs.declared.slots.Slot.{Slot}
use Rattle.bench.specs.declared.calls.Bench.{Bench}
use Rattle.bench.specs.Book.{in_force}
use Rattle.bench.specs.Answers.{also, merged_as, entry_of, named_from, catchers_from, entries_at, entries_for}
use Rattle.bench.specs.Held.{slot_list, list_in_slot, book_of}
use Rattle.bench.specs.steps.Naming.{catcher_in, said_by, ConflictIn, ResultOf}
use Rattle.bench.proofs.Slotting.{no_slot}

-- ---- conflict_in

pub done_no_conflict : (m : Result Merged Refusal) (d : Merged) → m ≡ Ok d → ConflictIn m None
done_no_conflict m d e = record {
  header = λ h q. absurd (let z : ◌≡◌ {A = ℕ} 0 1 = cc in omega arith);
  other = λ q. ap (λ (m : Result Merged Refusal). eqb (said_by m).number 10) e;
}

pub conflict_at : (m : Result Merged Refusal) (r : Refusal) (h : Header) → m ≡ Err r → r ≡ Conflict h → ConflictIn m (Some h)
conflict_at m r h e q = record {
  header = λ g w. e ∙ ap Err (q ∙ ap Conflict (let z : h ≡ g = cc in z));
  other = λ w. absurd (let z : ◌≡◌ {A = ℕ} 0 1 = cc in omega arith);
}

pub no_conflict : (m : Result Merged Refusal) (r : Refusal) → m ≡ Err r → eqb (refusal r).number 10 ≡ false → ConflictIn m None
no_conflict m r e n = record {
  header = λ h q. absurd (let z : ◌≡◌ {A = ℕ} 0 1 = cc in omega arith);
  other = λ q. ap (λ (m : Result Merged Refusal). eqb (said_by m).number 10) e ∙ n;
}

-- ---- catcher_in

-- a slot without a list, and one with a list
pub vacant_none : (slot : Slot) (h : Header) (t : Bool) → t ≡ eqb slot.length 0 → t ≡ true → None ≡ catcher_in h (list_in_slot slot)
vacant_none slot h t e y = ap (λ (b : Bool). catcher_in h (cond b None (Some (slot_list slot)))) (sym y ∙ e)

pub filled_catches : (slot : Slot) (h : Header) (t : Bool) (p : List Entry) (c : Option ℕ) → t ≡ eqb slot.length 0 → t ≡ false → p ≡ slot_list slot → c ≡ catcher p h
    → c ≡ catcher_in h (list_in_slot slot)
filled_catches slot h t p c e n l q =
    q ∙ ap (λ (p : List Entry). catcher p h) l ∙ ap (λ (b : Bool). catcher_in h (cond b None (Some (slot_list slot)))) (sym n ∙ e)

-- ---- name_catchers

abbrev name_of : Header → Slot → Option ℕ
name_of h slot = catcher_in h (list_in_slot slot)

module _ (slots : List Slot) (h : Header) where
  -- the first i parties are named
  pub record NamesFirst (named : List (Option ℕ)) (i : ℕ) : Type 0 where
    pub slots_long : length slots ≡ 8
    pub names_long : length named ≡ 8
    pub first : take i named ≡ take i (map (name_of h) slots)

  pub names_more : (named : List (Option ℕ)) (i : ℕ) (c : Option ℕ) → i < 8 → NamesFirst named i → c ≡ catcher_in h (list_in_slot (get_or slots i no_slot))
      → NamesFirst (set named i c) (i + 1)
  names_more named i c l n e = record {
    slots_long = n.slots_long;
    names_long = length-set named i c ∙ n.names_long;
    first =
        ap (λ (k : ℕ). take k (set named i c)) (add-one i)
        ∙ take-suc-set named i c (long (length named) n.names_long)
        ∙ ap₂ (λ (front : List (Option ℕ)) (c : Option ℕ). front ++ c ∷ []) n.first e
        ∙ sym (
        ap (λ (k : ℕ). take k (map (name_of h) slots)) (add-one i)
        ∙ take-suc (map (name_of h) slots) i (name_of h no_slot) (long (length (map (name_of h) slots)) (length-map slots (name_of h) ∙ n.slots_long))
        ∙ ap (λ (x : Option ℕ). take i (map (name_of h) slots) ++ x ∷ []) (get_or-map (name_of h) slots i no_slot)
        );
  }
    where
      long : (m : ℕ) → m ≡ 8 → i < m
      long m e = omega arith

  pub names_all : (named : List (Option ℕ)) (i : ℕ) → 8 ≤ i → NamesFirst named i → named_from 1 named ≡ catchers_from 1 (map list_in_slot slots) h
  names_all named i l n = ap (named_from 1) whole ∙ as_book 1 slots
    where
      long : (m : ℕ) → m ≡ 8 → m ≤ i
      long m e = omega arith

      whole : named ≡ map (name_of h) slots
      whole =
          sym (take_all i named (long (length named) n.names_long))
          ∙ n.first
          ∙ take_all i (map (name_of h) slots) (long (length (map (name_of h) slots)) (length-map slots (name_of h) ∙ n.slots_long))

      as_book : (p : ℕ) (ss : List Slot) → named_from p (map (name_of h) ss) ≡ catchers_from p (map list_in_slot ss) h
      as_book p [] = refl
      as_book p (s ∷ ss) = go (list_in_slot s) (as_book (p + 1) ss)
        where
          go : (o : Option (List Entry)) → named_from (p + 1) (map (name_of h) ss) ≡ catchers_from (p + 1) (map list_in_slot ss) h
              → entry_of p (catcher_in h o) ++ named_from (p + 1) (map (name_of h) ss) ≡ catchers_from p (o ∷ map list_in_slot ss) h
          go None e = e
          go (Some q) e = ap (λ (vs : List ℕ). entry_of p (catcher q h) ++ vs) e

-- ---- what a call names

module _ (b : Bench) (m : Result Merged Refusal) (c : Option Header) (ns : List (Option ℕ)) (i : ConflictIn m c) where
  pub result_conflict : (h : Header) → c ≡ Some h → named_from 1 ns ≡ catchers_from 1 (book_of b) h → ResultOf b m (record { bench = b; answer = m; named = ns })
  result_conflict h e n = record {
    same = refl;
    answer = refl;
    names = λ f. n ∙ sym (ap (λ (m : Result Merged Refusal). entries_for (book_of b) (said_by m)) (i.header h e) ∙ ap (entries_at (book_of b)) (f h (i.header h e)));
  }

  pub result_other : c ≡ None → named_from 1 ns ≡ [] → ResultOf b m (record { bench = b; answer = m; named = ns })
  result_other e n = record {
    same = refl;
    answer = refl;
    names = λ f. n ∙ sym (ap (λ (t : Bool). cond t (entries_at (book_of b) (conflict_of headers (in_force (book_of b)))) []) (i.other e));
  }

-- the answer with what is named behind it
pub said_with : (m : Result Merged Refusal) (ns : List (Option ℕ)) → merged_as m ns ≡ also (said_by m) (named_from 1 ns)
said_with (Ok d) ns = refl
said_with (Err r) ns = refl

-- the answer beside the buffer
pub said_beside : (m : Result Merged Refusal) (buffer : List ℕ) → ◌≡◌ {A = Answer × List ℕ} (said_by m, buffer) (ending m buffer)
said_beside (Ok d) buffer = refl
said_beside (Err r) buffer = refl
