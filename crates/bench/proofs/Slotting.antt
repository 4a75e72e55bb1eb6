-- What the functions on slots show.
-- Assumes nothing.
use Rattle.std.specs.Prelude.{None, Option, Some}
use Prim.Native.Nat.{ℕ, zero, suc, ◌+◌, ◌-◌, ◌/◌, ◌<◌, ◌≤◌, min, max}
use native.Mathlib.Omega.{arith}
use native.Mathlib.Nat.{zero-div}
use native.Mathlib.Numerals.{add-one}
use mathlib.Core.Path.{◌≡◌, refl, sym, ◌∙◌, ap, ap₂, subst}
use mathlib.Core.Bool.{Bool, true, false, cond}
use mathlib.Core.List.{List, [], ◌∷◌, ◌++◌, map, append-nil}
use lib.Dec.{leb, eqb}
use lib.ListN.{length, get_or, take, drop, replicate, length-take, length-map, get_or-map}
use lib.Seq.{paste, take-length, take-suc, take_all}
use borrow.Author.Tests.{leb-true, leb-false}
use Rattle.policy.specs.Header.{headers}
use Rattle.policy.specs.declared.entry.Entry.{Entry}
use Rattle.wire.specs.Format.{Bytes, head_size, record_size, filed_limit, version_in, entries_from, records_in}
use Rattle.wire.proofs.Bytes.{bytes_take}
use Rattle.wire.proofs.Records.{entries_fit}
use Rattle.reconcile.specs.Rules.{Working}
use Rattle.reconcile.specs.steps.Stage.{filed_in, added, added_all}
use Rattle.reconcile.proofs.Staging.{stages_next}
use Rattle.bench.specs.declared.slots.Slot.{Slot}
use Rattle.bench.specs.Book.{Book, in_force}
use Rattle.bench.specs.Held.{slot_size, slot_with, bytes_in, slot_list, list_in_slot}
use Rattle.bench.specs.steps.Staged.{EachSlot, Staged}
use Rattle.wire.specs.steps.Fits.{AllFit}

-- ---- a file in a slot

abbrev zeros : ℕ → List ℕ
zeros n = replicate n 0

drop_replicate : (n k : ℕ) → drop k (zeros n) ≡ zeros (n - k)
drop_replicate n zero = ap zeros (less n)
  where
    less : (n : ℕ) → n ≡ n - 0
    less n = omega arith
drop_replicate zero (suc k) = ap zeros (less k)
  where
    less : (k : ℕ) → 0 ≡ 0 - suc k
    less k = omega arith
drop_replicate (suc n) (suc k) = drop_replicate n k ∙ ap zeros (less n k)
  where
    less : (n k : ℕ) → n - k ≡ suc n - suc k
    less n k = omega arith

pub slot_made : (s b : List ℕ) → b ≡ paste (replicate slot_size 0) 0 s (length s) → record { bytes = b; length = length s } ≡ slot_with s
slot_made s b e =
    ap (λ (x : List ℕ). record { bytes = x; length = length s })
    (e ∙ ap₂ (◌++◌) (take-length s) (ap (λ (n : ℕ). drop n (zeros slot_size)) (from_start (length s)) ∙ drop_replicate slot_size (length s)))
  where
    from_start : (n : ℕ) → 0 + n ≡ n
    from_start n = omega arith

-- ---- the list of a slot

pub slot_fits : (slot : Slot) → Bytes slot.bytes → AllFit (slot_list slot)
slot_fits slot f = entries_fit (bytes_in slot) 0 (min (records_in (bytes_in slot)) filed_limit) (bytes_take slot.length slot.bytes f)

-- no bytes behind a head, no entries
none_behind : (s : List ℕ) → length s ≤ head_size → filed_in s ≡ []
none_behind s l = ap (λ (n : ℕ). entries_from s 0 (min n filed_limit)) (ap (◌/ record_size (version_in s)) (nothing (length s) l) ∙ zero-div (record_size (version_in s)))
  where
    nothing : (n : ℕ) → n ≤ head_size → n - head_size ≡ 0
    nothing n l = omega arith

-- the bytes lent are the slot's file, and at least a head
pub slot_lends : (slot : Slot) (end : ℕ) → length slot.bytes ≡ slot_size → end ≡ max head_size (min slot.length slot_size) → filed_in (take end slot.bytes) ≡ slot_list slot
slot_lends slot end z e = go (leb head_size slot.length) refl
  where
    t : List ℕ
    t = take end slot.bytes

    go : (b : Bool) → leb head_size slot.length ≡ b → filed_in t ≡ slot_list slot
    go true q = ap filed_in (same (leb slot.length slot_size) refl)
      where
        long : head_size ≤ slot.length
        long = leb-true head_size slot.length q

        within : (n : ℕ) → head_size ≤ n → n ≤ slot_size → max head_size (min n slot_size) ≡ n
        within n a b = omega arith

        same : (b : Bool) → leb slot.length slot_size ≡ b → t ≡ bytes_in slot
        same true w = ap (λ (n : ℕ). take n slot.bytes) (e ∙ within slot.length long (leb-true slot.length slot_size w))
        same false w =
            let m = leb-false slot.length slot_size w in
            take_all end slot.bytes (omega arith) ∙ sym (take_all slot.length slot.bytes (omega arith))
    go false q =
        let m = leb-false head_size slot.length q in
        none_behind t (omega (arith, length-take end slot.bytes)) ∙ sym (none_behind (bytes_in slot) (omega (arith, length-take slot.length slot.bytes)))

-- ---- the lists of all slots

-- what reading an array of slots past its end counts as
abbrev pub no_slot : Slot
no_slot = record { bytes = []; length = 0 }

in_force-snoc : (k : Book) (x : Option (List Entry)) → in_force (k ++ x ∷ []) ≡ in_force k ++ in_force (x ∷ [])
in_force-snoc [] x = refl
in_force-snoc (None ∷ k) x = in_force-snoc k x
in_force-snoc (Some p ∷ k) x = ap (p ∷◌) (in_force-snoc k x)

each_snoc : (P : List Entry → Type 0) (k : Book) (x : Option (List Entry)) → EachSlot P k → EachSlot P (x ∷ []) → EachSlot P (k ++ x ∷ [])
each_snoc P [] x e f = f
each_snoc P (None ∷ k) x e f = each_snoc P k x e f
each_snoc P (Some p ∷ k) x e f = (e.0, each_snoc P k x e.1 f)

module _ (slots : List Slot) (i : ℕ) (w : Option Working) (n : length slots ≡ 8) (e : Staged (take i (map list_in_slot slots)) w) where
  abbrev slot : Slot
  slot = get_or slots i no_slot

  abbrev k : Book
  k = take i (map list_in_slot slots)

  more : (x : Option (List Entry)) → i < 8 → list_in_slot slot ≡ x → take (i + 1) (map list_in_slot slots) ≡ k ++ x ∷ []
  more x l q =
      ap (λ (n : ℕ). take n (map list_in_slot slots)) (add-one i)
      ∙ take-suc (map list_in_slot slots) i None (long (length (map list_in_slot slots)) (length-map slots list_in_slot ∙ n))
      ∙ ap (λ (x : Option (List Entry)). k ++ x ∷ []) (get_or-map list_in_slot slots i no_slot ∙ q)
    where
      long : (m : ℕ) → m ≡ 8 → i < m
      long m e = omega arith

  pub staged_vacant : {t : Bool} → i < 8 → t ≡ eqb slot.length 0 → t ≡ true → Staged (take (i + 1) (map list_in_slot slots)) w
  staged_vacant l y z =
      let q = more None l (ap (λ (t : Bool). cond t None (Some (slot_list slot))) (sym y ∙ z)) in
      subst (λ (k : Book). Staged k w) (sym q)
      (e.0 ∙ ap (added_all headers None) (sym (in_force-snoc k None ∙ append-nil (in_force k))), each_snoc AllFit k None e.1 tt)

  module _ {t : Bool} (l : i < 8) (y : t ≡ eqb slot.length 0) (z : t ≡ false) (f : AllFit (slot_list slot)) where
    pub staged_next : (v : Option Working) → v ≡ added headers w (slot_list slot) → Staged (take (i + 1) (map list_in_slot slots)) v
    staged_next v a =
        let q = more (Some (slot_list slot)) l (ap (λ (t : Bool). cond t None (Some (slot_list slot))) (sym y ∙ z)) in
        subst (λ (k : Book). Staged k v) (sym q) (
          stages_next (in_force k) (slot_list slot) w v e.0 a ∙ ap (added_all headers None) (sym (in_force-snoc k (Some (slot_list slot)))),
          each_snoc AllFit k (Some (slot_list slot)) e.1 (f, tt),
        )

  pub staged_all : 8 ≤ i → Staged (map list_in_slot slots) w
  staged_all l = subst (λ (k : Book). Staged k w) (take_all i (map list_in_slot slots) (long (length (map list_in_slot slots)) (length-map slots list_in_slot ∙ n))) e
    where
      long : (k : ℕ) → k ≡ 8 → k ≤ i
      long k e = omega arith
