-- What is kept of the entries that are offered so far: the first entries of an array, with their rows beside them.
-- Assumes nothing.
use Rattle.std.specs.Prelude.{None, Option, Some, is_some}
use Prim.Native.Nat.{ℕ, ◌+◌, ◌*◌, ◌<◌, ◌≤◌}
use native.Mathlib.Omega.{arith}
use mathlib.Core.Path.{◌≡◌, refl, sym, ◌∙◌, ap, ap₂}
use mathlib.Core.Bool.{Bool, true, false, not, cond, ◌&&◌, and_comm}
use mathlib.Core.List.{List, [], ◌∷◌, ◌++◌}
use lib.ListN.{length, take, set, length-append, length-set}
use lib.Seq.{length-take-le, take-suc-set, paste, length-paste}
use native.Mathlib.Numerals.{add-one}
use borrow.Author.Tests.{le-leb, lt-leb}
use Rattle.policy.specs.declared.header.Header.{Header}
use Rattle.policy.specs.declared.entry.Entry.{Entry}
use Rattle.policy.specs.Box.{proper}
use Rattle.policy.specs.Header.{arity, Box, lies, Headers, headers}
use Rattle.policy.specs.steps.Findings.{lesser}
use Rattle.policy.specs.Least.{least, least_in}
use Rattle.policy.specs.Entry.{selector}
use Rattle.policy.specs.Policy.{missed}
use Rattle.policy.specs.steps.Rows.{row_size, rows_in, numbers_of}
use Rattle.policy.proofs.Least.{agree, lesser_last}
use Rattle.policy.proofs.Bool.{not_true, not_false}
use Rattle.wire.specs.Format.{list_limit}
use Rattle.reconcile.specs.Rules.{is_nothing, no_header, shadowed, Working, list, crowded, limited}
use Rattle.reconcile.specs.steps.Pass.{offered, offered_all}
use Rattle.reconcile.specs.steps.Stage.{working_in}
use Rattle.reconcile.proofs.Pass.{empty_shadowed, offered_append}
use Rattle.reconcile.proofs.Beside.{lent_front, Beside, beside_next}

-- ---- whether a header of a box is left

left_search : (hs : Headers) (p : List Entry) (b : Box) (f : Option Header) → f ≡ lesser (least_in hs b (missed p)) None → (no_header hs λ h. missed p h && lies b h) ≡ is_nothing f
unfolding no_header least_in
left_search hs p b f q =
    ap is_nothing
    (agree hs (λ h. missed p h && lies b h) (λ h. lies b h && missed p h) (λ h a. and_comm (missed p h) (lies b h))
    ∙ sym (q ∙ lesser_last (least hs λ h. lies b h && missed p h)))

module _ (p : List Entry) (b : Box) (f : Option Header) (q : f ≡ lesser (least_in headers b (missed p)) None) where
  pub left_found : (u : Bool) → u ≡ is_some f → u ≡ not (no_header headers λ h. missed p h && lies b h)
  left_found u e = e ∙ go f ∙ sym (ap not (left_search headers p b f q))
    where
      go : (f : Option Header) → is_some f ≡ not (is_nothing f)
      go None = refl
      go (Some h) = refl

-- ---- the working list of the first n entries

module _ (es : List Entry) (n : ℕ) where
  pub working_crowded : list_limit < n → working_in es n ≡ crowded
  working_crowded l = ap (λ (b : Bool). cond b (list (take n es)) crowded) (lt-leb n list_limit l)

  pub working_list : n ≤ list_limit → working_in es n ≡ list (take n es)
  working_list l = ap (λ (b : Bool). cond b (list (take n es)) crowded) (le-leb n list_limit l)

-- ---- the entries of p are offered, and the first n of es are kept

pub record Keeps (rows : List ℕ) (es : List Entry) (n : ℕ) (p : List Entry) : Type 0 where
  pub model : offered_all headers (list []) p ≡ list (take n es)
  pub beside : Beside rows es n
  pub few : n ≤ list_limit
  pub places : length es ≡ list_limit
  pub room : length rows ≡ row_size * list_limit

pub keeps_none : (rows : List ℕ) (es : List Entry) → length es ≡ list_limit → length rows ≡ row_size * list_limit → Keeps rows es 0 []
keeps_none rows es u v = record { model = refl; beside = refl; few = omega arith; places = u; room = v }

module _ (rows : List ℕ) (es : List Entry) (n : ℕ) (p : List Entry) (e : Entry) (k : Keeps rows es n p) where
  one_more : offered_all headers (list []) (p ++ e ∷ []) ≡ cond (shadowed headers (take n es) e) (list (take n es)) (limited (take n es ++ e ∷ []))
  one_more = offered_append headers (list []) p (e ∷ []) ∙ ap (λ (w : Working). offered headers w e) k.model

  one_shadowed : shadowed headers (take n es) e ≡ true → Keeps rows es n (p ++ e ∷ [])
  one_shadowed s = record {
    model = one_more ∙ ap (λ (b : Bool). cond b (list (take n es)) (limited (take n es ++ e ∷ []))) s;
    beside = k.beside;
    few = k.few;
    places = k.places;
    room = k.room;
  }

  -- an empty selector
  pub keeps_empty : proper arity (selector e) ≡ false → Keeps rows es n (p ++ e ∷ [])
  keeps_empty q = one_shadowed (empty_shadowed headers (take n es) e q)

  module _ (t : Bool) (b : Box) (c : t ≡ not (no_header headers λ h. missed (rows_in (take (row_size * n) rows)) h && lies b h)) (x : b ≡ selector e) where
    test : t ≡ not (shadowed headers (take n es) e)
    test =
        c
        ∙ ap₂ (λ (q : List Entry) (b : Box). not (no_header headers λ h. missed q h && lies b h))
        (lent_front rows n (omega (arith, k.few, k.room)) ∙ k.beside) x

    -- nothing of it is left
    pub keeps_shadowed : t ≡ false → Keeps rows es n (p ++ e ∷ [])
    keeps_shadowed q = one_shadowed (not_false {b = shadowed headers (take n es) e} (sym test ∙ q))

    one_limited : t ≡ true → offered_all headers (list []) (p ++ e ∷ []) ≡ limited (take n es ++ e ∷ [])
    one_limited q =
        one_more
        ∙ ap (λ (b : Bool). cond b (list (take n es)) (limited (take n es ++ e ∷ []))) (not_true {b = shadowed headers (take n es) e} (sym test ∙ q))

    count : length (take n es ++ e ∷ []) ≡ n + 1
    count = length-append (take n es) (e ∷ []) ∙ ap (◌+ 1) (length-take-le n es (omega (arith, k.few, k.places)))

    -- it is one too many
    pub keeps_full : t ≡ true → list_limit ≤ n → offered_all headers (list []) (p ++ e ∷ []) ≡ crowded
    keeps_full q l = one_limited q ∙ ap (λ (b : Bool). cond b (list (take n es ++ e ∷ [])) crowded) (lt-leb (length (take n es ++ e ∷ [])) list_limit (omega (arith, count)))

    -- it is kept
    pub keeps_kept : (r : List ℕ) → t ≡ true → n < list_limit → r ≡ paste rows (row_size * n) (numbers_of e) row_size → Keeps r (set es n e) (n + 1) (p ++ e ∷ [])
    keeps_kept r q l h = record {
      model =
          one_limited q
          ∙ ap (λ (b : Bool). cond b (list (take n es ++ e ∷ [])) crowded) (le-leb (length (take n es ++ e ∷ [])) list_limit (omega (arith, count)))
          ∙ ap list (sym (ap (λ (i : ℕ). take i (set es n e)) (add-one n) ∙ take-suc-set es n e (omega (arith, k.places))));
      beside = beside_next rows es n k.beside n e r (omega (arith, k.room)) h refl (omega (arith, k.places));
      few = omega arith;
      places = length-set es n e ∙ k.places;
      room = ap length h ∙ length-paste rows (row_size * n) (numbers_of e) row_size (omega (arith, k.room)) (omega arith) ∙ k.room;
    }
