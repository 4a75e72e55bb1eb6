-- The pairs of two lists in lexicographic order, as they are offered.
-- Assumes nothing.
use Prim.Native.Nat.{ℕ, suc, ◌+◌, ◌*◌, ◌/◌, ◌<◌, ◌≤◌, min}
use native.Mathlib.Omega.{arith}
use native.Mathlib.Nat.{zero-add}
use native.Mathlib.Numerals.{add-one}
use mathlib.Core.Path.{◌≡◌, refl, sym, ◌∙◌, ap, ap₂, subst}
use mathlib.Core.Bool.{Bool, true, false, not, ◌&&◌}
use mathlib.Core.List.{List, [], ◌∷◌, ◌++◌, map, map-append, append_assoc, append-nil}
use lib.ListN.{length, take, drop, get_or, set, take-append-drop}
use lib.Seq.{take-suc, take_all, split_at, take-take, get_or-take, length-take-le, paste}
use Rattle.policy.specs.declared.entry.Entry.{Entry}
use Rattle.policy.specs.Box.{proper, meet}
use Rattle.policy.specs.Header.{arity, Box, lies, headers}
use Rattle.policy.specs.Entry.{selector, both}
use Rattle.policy.specs.Policy.{missed}
use Rattle.policy.specs.Sides.{box_of}
use Rattle.policy.specs.steps.Rows.{row_size, row_at, rows_in, numbers_of}
use Rattle.policy.proofs.Slices.{length_rows, rows_at}
use Rattle.wire.specs.Format.{head_size, filed_limit, list_limit, place_in, records_in, entries_from}
use Rattle.wire.specs.steps.Numbered.{entry_in}
use Rattle.wire.specs.Lists.{empty_entry}
use Rattle.wire.proofs.Entries.{first_at}
use Rattle.wire.proofs.Sizes.{counted_there, entry_within}
use Rattle.wire.proofs.Lists.{zero_entry}
use Rattle.reconcile.specs.Rules.{no_header, cross, Working, list, crowded, next}
use Rattle.reconcile.specs.steps.Pass.{offered_all, RowsOf}
use Rattle.reconcile.specs.steps.Stage.{working_in, filed_in}
use Rattle.reconcile.proofs.Pass.{offered_next, offered_append, offered_crowded}
use Rattle.reconcile.proofs.Keeping.{working_list, Keeps, keeps_empty, keeps_shadowed, keeps_full, keeps_kept}

-- the pairs of the first i entries, and those of the next with the first j of q
abbrev pub pairs : List Entry → List Entry → ℕ → ℕ → List Entry
pairs ds q i j = cross (take i ds) q ++ map (both (get_or ds i zero_entry)) (take j q)

cross_append : (a b q : List Entry) → cross (a ++ b) q ≡ cross a q ++ cross b q
cross_append [] b q = refl
cross_append (d ∷ a) b q = ap (map (both d) q ++◌) (cross_append a b q) ∙ sym (append_assoc (map (both d) q) (cross a q) (cross b q))

module _ (ds q : List Entry) (i j : ℕ) where
  pub pairs_next : j < length q → pairs ds q i (j + 1) ≡ pairs ds q i j ++ both (get_or ds i zero_entry) (get_or q j empty_entry) ∷ []
  pairs_next l =
      ap (λ (p : List Entry). cross (take i ds) q ++ map (both (get_or ds i zero_entry)) p) (ap (λ (k : ℕ). take k q) (add-one j) ∙ take-suc q j empty_entry l)
      ∙ ap (cross (take i ds) q ++◌) (map-append (both (get_or ds i zero_entry)) (take j q) (get_or q j empty_entry ∷ []))
      ∙ sym (append_assoc (cross (take i ds) q) (map (both (get_or ds i zero_entry)) (take j q)) (both (get_or ds i zero_entry) (get_or q j empty_entry) ∷ []))

  pub pairs_turn : i < length ds → length q ≤ j → pairs ds q (i + 1) 0 ≡ pairs ds q i j
  pairs_turn l m =
      append-nil (cross (take (i + 1) ds) q)
      ∙ ap (λ (p : List Entry). cross p q) (ap (λ (k : ℕ). take k ds) (add-one i) ∙ take-suc ds i zero_entry l)
      ∙ cross_append (take i ds) (get_or ds i zero_entry ∷ []) q
      ∙ ap (cross (take i ds) q ++◌) (append-nil (map (both (get_or ds i zero_entry)) q) ∙ ap (map (both (get_or ds i zero_entry))) (sym (take_all j q m)))

  -- those that are left
  abbrev rest : ℕ → List Entry
  rest n = map (both (get_or ds i zero_entry)) (drop j q) ++ cross (drop (suc i) (take n ds)) q

  pairs_rest : (n : ℕ) → i < n → n ≤ length ds → cross (take n ds) q ≡ pairs ds q i j ++ rest n
  pairs_rest n l m =
      ap (λ (p : List Entry). cross p q) (split_at (take n ds) i zero_entry (omega (arith, length-take-le n ds m)) ∙ ap₂ (λ (p : List Entry) (d : Entry). p ++ d ∷ drop (suc i) (take n ds)) (take-take i n ds (omega arith)) (get_or-take n ds i zero_entry l))
      ∙ cross_append (take i ds) (d ∷ drop (suc i) (take n ds)) q
      ∙ ap (λ (p : List Entry). cross (take i ds) q ++ (p ++ cross (drop (suc i) (take n ds)) q)) (ap (map (both d)) (sym (take-append-drop j q)) ∙ map-append (both d) (take j q) (drop j q))
      ∙ ap (cross (take i ds) q ++◌) (append_assoc (map (both d) (take j q)) (map (both d) (drop j q)) (cross (drop (suc i) (take n ds)) q))
      ∙ sym (append_assoc (cross (take i ds) q) (map (both d) (take j q)) (map (both d) (drop j q) ++ cross (drop (suc i) (take n ds)) q))
    where
      d : Entry
      d = get_or ds i zero_entry

-- ---- what the pass keeps of them

-- after all pairs
pub crossed_all : (ds q es : List Entry) (rows : List ℕ) (n i : ℕ) → length ds ≤ i → Keeps rows es n (pairs ds q i 0) → working_in es n ≡ next headers (list ds) q
crossed_all ds q es rows n i e k =
    working_list es n k.few
    ∙ sym k.model
    ∙ ap (offered_all headers (list [])) (append-nil (cross (take i ds) q) ∙ ap (λ (p : List Entry). cross p q) (take_all i ds e))
    ∙ offered_next headers ds q

-- crowded before the last stays so
crossed_early : (ds q : List Entry) (i j count : ℕ) → i < count → count ≤ length ds → offered_all headers (list []) (pairs ds q i j) ≡ crowded
    → crowded ≡ next headers (list (take count ds)) q
crossed_early ds q i j count l m c =
    sym (ap (offered_all headers (list [])) (pairs_rest ds q i j count l m)
    ∙ offered_append headers (list []) (pairs ds q i j) (rest ds q i j count)
    ∙ ap (λ (w : Working). offered_all headers w (rest ds q i j count)) c
    ∙ offered_crowded headers (rest ds q i j count))
    ∙ offered_next headers (take count ds) q

-- ---- the rows of a list, by number

row_in : (s : List ℕ) (k : ℕ) → k < length s / row_size → get_or (rows_in s) k empty_entry ≡ row_at s (row_size * k)
row_in s k l = rows_at s 0 (length s / row_size) k empty_entry l ∙ ap (row_at s) (zero-add (row_size * k))

-- ---- one turn of the pass, for the rows t

module _ (ds es : List Entry) (t rows : List ℕ) (n i : ℕ) where
  -- no pair of this entry is left
  pub turn_ends : (j : ℕ) → i < length ds → length t / row_size ≤ j → Keeps rows es n (pairs ds (rows_in t) i j) → Keeps rows es n (pairs ds (rows_in t) (i + 1) 0)
  turn_ends j l m p = subst (Keeps rows es n) (sym (pairs_turn ds (rows_in t) i j l (omega (arith, length_rows t 0 (length t / row_size))))) p

  module _ (b : Box) (j : ℕ) (x : b ≡ selector (get_or ds i zero_entry)) (p : Keeps rows es n (pairs ds (rows_in t) i j)) (l : j < length t / row_size) where
    abbrev pair : Entry
    pair = both (get_or ds i zero_entry) (get_or (rows_in t) j empty_entry)

    up : pairs ds (rows_in t) i (j + 1) ≡ pairs ds (rows_in t) i j ++ pair ∷ []
    up = pairs_next ds (rows_in t) i j (omega (arith, length_rows t 0 (length t / row_size)))

    its_box : meet arity b (box_of t (row_size * j)) ≡ selector pair
    its_box = ap₂ (meet arity) x (sym (ap selector (row_in t j l)))

    -- a pair that has nothing in common is passed
    pub turn_apart : (u : Bool) → u ≡ proper arity (meet arity b (box_of t (row_size * j))) → u ≡ false → Keeps rows es n (pairs ds (rows_in t) i (j + 1))
    turn_apart u e z =
        subst (Keeps rows es n) (sym up)
        (keeps_empty rows es n (pairs ds (rows_in t) i j) pair p (sym (ap (proper arity) its_box) ∙ sym e ∙ z))

    module _ (u : Bool) (c : Box) (v : u ≡ not (no_header headers λ h. missed (rows_in (take (row_size * n) rows)) h && lies c h)) (y : c ≡ meet arity b (box_of t (row_size * j))) where
      pub turn_shadowed : u ≡ false → Keeps rows es n (pairs ds (rows_in t) i (j + 1))
      turn_shadowed z = subst (Keeps rows es n) (sym up) (keeps_shadowed rows es n (pairs ds (rows_in t) i j) pair p u c v (y ∙ its_box) z)

      pub turn_full : i < length ds → u ≡ true → list_limit ≤ n → crowded ≡ next headers (list ds) (rows_in t)
      turn_full m z w =
          crossed_early ds (rows_in t) i (j + 1) (length ds) m (omega arith)
          (ap (offered_all headers (list [])) up ∙ keeps_full rows es n (pairs ds (rows_in t) i j) pair p u c v (y ∙ its_box) z w)
          ∙ ap (λ (d : List Entry). next headers (list d) (rows_in t)) (take_all (length ds) ds (omega arith))

      pub turn_kept : (s r : List ℕ) (f e : Entry) → RowsOf s t → f ≡ entry_in s j → e ≡ both (get_or ds i zero_entry) f → u ≡ true → n < list_limit
          → r ≡ paste rows (row_size * n) (numbers_of e) row_size → Keeps r (set es n e) (n + 1) (pairs ds (rows_in t) i (j + 1))
      turn_kept s r f e o g d z w h =
          subst (Keeps r (set es n e) (n + 1)) (ap (λ (x : Entry). pairs ds (rows_in t) i j ++ x ∷ []) same ∙ sym up)
          (keeps_kept rows es n (pairs ds (rows_in t) i j) e p u c v (y ∙ its_box ∙ sym (ap selector same)) r z w h)
        where
          same : e ≡ pair
          same =
              d ∙ ap (both (get_or ds i zero_entry))
              (g ∙ sym (ap (λ (p : List Entry). get_or p j empty_entry) o.same ∙ first_at s (length t / row_size) j empty_entry l))

-- ---- the rows are those of a file

pub their_entry : (s t : List ℕ) (k : ℕ) → RowsOf s t → k < length t / row_size → place_in s (k + 1) ≤ length s
their_entry s t k o l = entry_within s k (length t / row_size) l o.there

module _ (s t : List ℕ) (n : ℕ) (e : n ≡ min (records_in s) filed_limit) (head : head_size ≤ length s) (z : length t ≡ row_size * filed_limit) (d : rows_in (take (row_size * n) t) ≡ entries_from s 0 n) where
  how_many : length (take (row_size * n) t) / row_size ≡ n
  how_many = ap (◌/ row_size) (length-take-le (row_size * n) t (omega arith)) ∙ times n
    where
      times : (n : ℕ) → row_size * n / row_size ≡ n
      times n = omega arith

  pub decoded_rows : RowsOf s (take (row_size * n) t)
  decoded_rows = record {
    same = d ∙ ap (entries_from s 0) (sym how_many);
    there = let w : place_in s (length (take (row_size * n) t) / row_size) ≡ place_in s n = ap (place_in s) how_many in omega (arith, counted_there s n head (omega arith));
    few = omega (arith, how_many);
  }

  pub crossed_list : (w v : Working) → v ≡ next headers w (rows_in (take (row_size * n) t)) → v ≡ next headers w (filed_in s)
  crossed_list w v y = y ∙ ap (λ (p : List Entry). next headers w p) (d ∙ ap (entries_from s 0) e)
