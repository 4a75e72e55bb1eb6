-- Rules 3 and 4 on rows: the searches, and the pass from last to first over the entries beside them.
-- Assumes nothing.
use Rattle.std.specs.Prelude.{None, Option, Some, is_some}
use Prim.Native.Nat.{ℕ, suc, ◌+◌, ◌*◌, ◌-◌, ◌<◌, ◌≤◌}
use native.Mathlib.Omega.{arith}
use native.Mathlib.Numerals.{add-one}
use mathlib.Core.Path.{◌≡◌, refl, sym, ◌∙◌, ap, ap₂, subst, fun_ext}
use mathlib.Core.Bool.{Bool, true, false, not, cond, ◌&&◌}
use mathlib.Core.List.{List, [], ◌∷◌}
use lib.ListN.{length, take, drop, get_or, set, length-set}
use lib.Seq.{take-suc, take_all, take-take, get_or-take, take-set-le, take-set-lt, drop-set-lt, get_or-set_same, paste, length-paste, slice, slice_empty, slice-cons}
use Rattle.policy.specs.declared.header.Header.{Header}
use Rattle.policy.specs.declared.entry.Entry.{Entry}
use Rattle.policy.specs.Header.{Box, lies, Headers, headers, everything}
use Rattle.policy.specs.steps.Findings.{lesser}
use Rattle.policy.specs.Least.{least, least_in}
use Rattle.policy.specs.Entry.{selector}
use Rattle.policy.specs.Policy.{allowed, missed}
use Rattle.policy.specs.Sides.{box_of}
use Rattle.policy.specs.steps.Rows.{row_size, row_at, rows_from, rows_in, numbers_of}
use Rattle.policy.proofs.Least.{lesser_last}
use Rattle.policy.proofs.Bool.{clash}
use Rattle.wire.proofs.Lists.{zero_entry}
use Rattle.region.specs.declared.treated.Sets.TheVariants.{Same, Other}
use Rattle.region.specs.steps.Treated.{judged}
use Rattle.region.proofs.Everywhere.{least_gap}
use Rattle.reconcile.specs.Rules.{is_nothing, no_header, is_empty, needless, strike, struck_from, struck}
use Rattle.reconcile.proofs.Striking.{needless_is}
use Rattle.reconcile.proofs.Judged.{empty_judged, differs_judged}
use Rattle.reconcile.proofs.Beside.{lent_front, lent_back, Beside, beside_front, beside_at, beside_back, beside_set}

-- ---- rule 3

-- nothing stands in front of the list
pub conflict_search : (s : List ℕ) (p : List Entry) (b : Box) (r : Option Header) → b ≡ everything
    → r ≡ lesser (least_in headers b (λ h. missed (rows_in (take 0 s)) h && judged (Same 0) false (allowed p h))) None
    → r ≡ least headers (λ h. is_empty (allowed p h))
conflict_search s p b r e q =
    least_gap headers (λ h. judged (Same 0) false (allowed p h)) b r e q ∙ ap (least headers) (fun_ext λ h. sym (empty_judged (allowed p h)))

-- ---- rule 4, one entry

needless_search : (hs : Headers) (front : List Entry) (e : Entry) (back : List Entry) (b : Box) (a : ℕ) (f : Option Header) → b ≡ selector e → a ≡ e.actions
    → f ≡ lesser (least_in hs b (λ h. missed front h && judged (Other a) true (allowed back h))) None → needless hs front e back ≡ is_nothing f
unfolding no_header least_in
needless_search hs front e back b a f x y q =
    needless_is hs front e back
    ∙ ap is_nothing
    (ap (least hs) (fun_ext λ h. differs_judged front e back h)
    ∙ ap₂ (λ (s : Box) (c : ℕ). least hs λ h. lies s h && (missed front h && judged (Other c) true (allowed back h))) (sym x) (sym y)
    ∙ sym (q ∙ lesser_last (least hs λ h. lies b h && (missed front h && judged (Other a) true (allowed back h)))))

module _ (s : List ℕ) (k top n : ℕ) (b : Box) (a : ℕ) (f : Option Header) (l : k < top) (m : top ≤ n) (z : row_size * n ≤ length s) (x : b ≡ box_of s (row_size * k))
    (y : a ≡ (row_at s (row_size * k)).actions)
    (q : f
    ≡ lesser
    (least_in headers b λ h.
    missed (rows_in (take (row_size * k) s)) h
    && judged (Other a) true (allowed (rows_in (take (row_size * n - row_size * top) (drop (row_size * top) s))) h))
    None) where
  test : needless headers (rows_from s 0 k) (row_at s (row_size * k)) (rows_from s (row_size * top) (n - top)) ≡ is_nothing f
  test =
      sym (ap₂ (λ (p r : List Entry). needless headers p (row_at s (row_size * k)) r) (lent_front s k (omega arith)) (lent_back s top n m z))
      ∙ needless_search headers (rows_in (take (row_size * k) s)) (row_at s (row_size * k)) (rows_in (take (row_size * n - row_size * top) (drop (row_size * top) s))) b a f x y q

  pub needless_found : (u : Bool) → is_some f ≡ not u → u ≡ needless headers (rows_from s 0 k) (row_at s (row_size * k)) (rows_from s (row_size * top) (n - top))
  needless_found u e = go u f e ∙ sym test
    where
      go : (u : Bool) (f : Option Header) → is_some f ≡ not u → u ≡ is_nothing f
      go true None e = refl
      go false (Some h) e = refl
      go true (Some h) e = clash refl e
      go false None e = clash e refl

-- ---- rule 4, the pass

-- of the first n entries of ds, those from place k on are examined; what is left of them are the entries of es from place top on
pub record Examined (ds : List Entry) (n : ℕ) (s : List ℕ) (es : List Entry) (top k : ℕ) : Type 0 where
  pub front : take k es ≡ take k ds
  pub back : slice top n es ≡ struck_from headers (take k ds) (slice k n ds)
  pub above : k ≤ top
  pub most : top ≤ n
  pub beside : Beside s es n
  pub room : row_size * n ≤ length s
  pub few : n ≤ length es
  pub size : length es ≡ length ds

pub examined_none : (s : List ℕ) (es : List Entry) → rows_from s 0 (length es) ≡ es → row_size * length es ≤ length s → Examined es (length es) s es (length es) (length es)
examined_none s es b l = record {
  front = refl;
  back = slice_empty (length es) es ∙ ap (struck_from headers (take (length es) es)) (sym (slice_empty (length es) es));
  above = omega arith;
  most = omega arith;
  beside = b ∙ sym (take_all (length es) es (omega arith));
  room = l;
  few = omega arith;
  size = refl;
}

pub examined_all : (ds es : List Entry) (s : List ℕ) (top k : ℕ) → Examined ds (length ds) s es top k → k ≤ 0 → (top ≤ length es) × (drop top es ≡ struck headers ds)
examined_all ds es s top k x z = (
  omega (arith, x.most, x.size),
  ap (drop top) (sym (take_all (length ds) es (omega (arith, x.size)))) ∙ x.back
      ∙ ap (λ (j : ℕ). struck_from headers (take j ds) (slice j (length ds) ds)) (none k z) ∙ ap (struck_from headers []) (take_all (length ds) ds (omega arith)),
)
  where
    none : (k : ℕ) → k ≤ 0 → k ≡ 0
    none k l = omega arith

module _ (ds es : List Entry) (s : List ℕ) (n top j : ℕ) (x : Examined ds n s es top (j + 1)) where
  front_same : take j es ≡ take j ds
  front_same = sym (take-take j (j + 1) es (omega arith)) ∙ ap (take j) x.front ∙ take-take j (j + 1) ds (omega arith)

  entry_same : get_or es j zero_entry ≡ get_or ds j zero_entry
  entry_same =
      sym (get_or-take (j + 1) es j zero_entry (omega arith))
      ∙ ap (λ (p : List Entry). get_or p j zero_entry) x.front
      ∙ get_or-take (j + 1) ds j zero_entry (omega arith)

  -- what the rule makes of one entry more
  one_more : struck_from headers (take j ds) (slice j n ds) ≡ strike headers (take j es) (get_or es j zero_entry) (slice top n es)
  one_more =
      ap (struck_from headers (take j ds)) (slice-cons j n ds zero_entry (omega (arith, x.above, x.most)) (omega (arith, x.few, x.size)))
      ∙ ap (λ (p : List Entry). strike headers (take j ds) (get_or ds j zero_entry) (struck_from headers p (slice (suc j) n ds))) (sym (take-suc ds j zero_entry (omega (arith, x.above, x.most, x.few, x.size))))
      ∙ ap (λ (i : ℕ). strike headers (take j ds) (get_or ds j zero_entry) (struck_from headers (take i ds) (slice i n ds))) (sym (add-one j))
      ∙ ap (strike headers (take j ds) (get_or ds j zero_entry)) (sym x.back)
      ∙ ap₂ (λ (p : List Entry) (e : Entry). strike headers p e (slice top n es)) (sym front_same) (sym entry_same)

  module _ (t : Bool) (q : t ≡ needless headers (rows_from s 0 j) (row_at s (row_size * j)) (rows_from s (row_size * top) (n - top))) where
    struck_as : struck_from headers (take j ds) (slice j n ds) ≡ cond t (slice top n es) (get_or es j zero_entry ∷ slice top n es)
    struck_as =
        one_more
        ∙ ap (λ (b : Bool). cond b (slice top n es) (get_or es j zero_entry ∷ slice top n es))
        (sym (q
        ∙ ap₂ (λ (p : List Entry) (e : Entry). needless headers p e (rows_from s (row_size * top) (n - top)))
        (beside_front s es n x.beside j (omega (arith, x.above, x.most))) (beside_at s es n x.beside j zero_entry (omega (arith, x.above, x.most)))
        ∙ ap (needless headers (take j es) (get_or es j zero_entry)) (beside_back s es n x.beside top x.most)))

    examined_struck : t ≡ true → Examined ds n s es top j
    examined_struck u = record {
      front = front_same;
      back = sym (struck_as ∙ ap (λ (b : Bool). cond b (slice top n es) (get_or es j zero_entry ∷ slice top n es)) u);
      above = omega (arith, x.above);
      most = x.most;
      beside = x.beside;
      room = x.room;
      few = x.few;
      size = x.size;
    }

    examined_kept : (r : List ℕ) (e : Entry) → t ≡ false → e ≡ get_or es j zero_entry → r ≡ paste s (row_size * (top - 1)) (numbers_of e) row_size
        → Examined ds n r (set es (top - 1) e) (top - 1) j
    examined_kept r e u y h = record {
      front = take-set-le j es (top - 1) e (omega (arith, x.above)) ∙ front_same;
      back =
          slice-cons (top - 1) n (set es (top - 1) e) zero_entry (omega (arith, x.above, x.most)) (omega (arith, x.few, length-set es (top - 1) e))
          ∙ ap₂ ◌∷◌ (get_or-set_same es (top - 1) e zero_entry (omega (arith, x.above, x.most, x.few)) ∙ y) (ap (λ (i : ℕ). slice i n (set es (top - 1) e)) (up top (omega (arith, x.above))) ∙ same)
          ∙ sym (struck_as ∙ ap (λ (b : Bool). cond b (slice top n es) (get_or es j zero_entry ∷ slice top n es)) u);
      above = omega (arith, x.above);
      most = omega (arith, x.most);
      beside = beside_set s es n x.beside (top - 1) e r (omega (arith, x.above, x.most, x.room)) h (omega (arith, x.above, x.most));
      room = omega (arith, x.room, ap length h ∙ length-paste s (row_size * (top - 1)) (numbers_of e) row_size (omega (arith, x.above, x.most, x.room)) (omega arith));
      few = omega (arith, x.few, length-set es (top - 1) e);
      size = length-set es (top - 1) e ∙ x.size;
    }
      where
        up : (top : ℕ) → 1 ≤ top → suc (top - 1) ≡ top
        up top l = omega arith

        same : slice top n (set es (top - 1) e) ≡ slice top n es
        same = ap (drop top) (take-set-lt n es (top - 1) e (omega (arith, x.above, x.most))) ∙ drop-set-lt top (take n es) (top - 1) e (omega (arith, x.above))

-- the same for the loop, which counts down
up : (k : ℕ) → 0 < k → k ≡ k - 1 + 1
up k l = omega arith

module _ (ds es : List Entry) (s : List ℕ) (n top k : ℕ) (x : Examined ds n s es top k) (l : 0 < k) (t : Bool)
    (q : t ≡ needless headers (rows_from s 0 (k - 1)) (row_at s (row_size * (k - 1))) (rows_from s (row_size * top) (n - top))) where
  pub pass_struck : t ≡ true → Examined ds n s es top (k - 1)
  pass_struck u = examined_struck ds es s n top (k - 1) (subst (Examined ds n s es top) (up k l) x) t q u

  pub pass_kept : (r : List ℕ) (e : Entry) → t ≡ false → e ≡ get_or es (k - 1) zero_entry → r ≡ paste s (row_size * (top - 1)) (numbers_of e) row_size
      → Examined ds n r (set es (top - 1) e) (top - 1) (k - 1)
  pass_kept r e u y h = examined_kept ds es s n top (k - 1) (subst (Examined ds n s es top) (up k l) x) t q r e u y h
