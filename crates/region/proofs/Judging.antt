-- What the code's branches show of a search by the entries of a list.
-- Assumes nothing.
use Rattle.std.specs.Prelude.{None, Option, Some}
use Rattle.std.proofs.Common.{◌≡◌, ℕ, suc, ◌+◌, ◌-◌, ◌*◌, ◌/◌, ◌<◌, ◌≤◌, min, Bool, true, false, cond, ◌&&◌, List, [], ◌∷◌, ◌++◌, length, take, sym, refl, ap, ◌∙◌, ap₂, append_assoc, append-nil, arith, length-take}
use Rattle.policy.specs.declared.header.Header.{Header}
use Rattle.policy.specs.declared.entry.Entry.{Entry}
use Rattle.policy.specs.Box.{meet, proper}
use Rattle.policy.specs.Header.{arity, Box, Headers}
use Rattle.policy.specs.steps.Findings.{lesser}
use Rattle.policy.specs.Least.{least_in}
use Rattle.policy.specs.Entry.{selector}
use Rattle.policy.specs.Policy.{catcher, missed}
use Rattle.policy.specs.Refusals.{accepted}
use Rattle.policy.proofs.Bool.{and_left}
use Rattle.policy.proofs.Branch.{crossed_none}
use Rattle.policy.proofs.Slices.{length_rows, rows_split, rows_take}
use Rattle.region.specs.declared.treated.Sets.{Sets}
use Rattle.policy.specs.Sides.{box_of}
use Rattle.policy.specs.steps.Rows.{row_size, row_at, rows_from, rows_in}
use Rattle.region.specs.Search.{with_catcher}
use Rattle.region.specs.steps.Treated.{wanted, finding_answer}
use Rattle.region.proofs.Catching.{left_caught_by}
use Rattle.region.proofs.Uses.{left_in, judged_wanted, judged_passed, judged_end, judged_exhausted}

-- ---- the entries before a place, and from it on

pub firsts_in : (s : List ℕ) (i n : ℕ) → i ≤ length s / row_size → n ≡ row_size * i → rows_in (take n s) ≡ rows_from s 0 i
firsts_in s i n l e =
    ap (rows_from (take n s) 0) (ap (◌/ row_size) (length-take n s ∙ shorter n i (length s) l e) ∙ times i)
    ∙ rows_take s n 0 i (fits n i e)
  where
    shorter : (n i m : ℕ) → i ≤ m / row_size → n ≡ row_size * i → min n m ≡ row_size * i
    shorter n i m l e = omega arith

    times : (i : ℕ) → row_size * i / row_size ≡ i
    times i = omega arith

    fits : (n i : ℕ) → n ≡ row_size * i → 0 + row_size * i ≤ n
    fits n i e = omega arith

module _ (s : List ℕ) where
  -- the rows from number i on
  abbrev from : ℕ → List Entry
  from i = rows_from s (row_size * i) (length s / row_size - i)

  first_of : (i : ℕ) → i < length s / row_size → from i ≡ row_at s (row_size * i) ∷ from (i + 1)
  first_of i l =
      ap (rows_from s (row_size * i)) (one_more (length s / row_size) i l)
      ∙ ap₂ (λ (at n : ℕ). row_at s (row_size * i) ∷ rows_from s at n) (next i) (less (length s / row_size) i)
    where
      one_more : (n i : ℕ) → i < n → n - i ≡ suc (n - (i + 1))
      one_more n i l = omega arith

      next : (i : ℕ) → row_size * i + row_size ≡ row_size * (i + 1)
      next i = omega arith

      less : (n i : ℕ) → n - (i + 1) ≡ n - (i + 1)
      less n i = refl

  firsts_more : (i : ℕ) → rows_from s 0 (i + 1) ≡ rows_from s 0 i ++ row_at s (row_size * i) ∷ []
  firsts_more i = rows_split s 0 i 1 ∙ ap (λ (at : ℕ). rows_from s 0 i ++ row_at s at ∷ []) (from_zero i)
    where
      from_zero : (i : ℕ) → 0 + row_size * i ≡ row_size * i
      from_zero i = omega arith

-- ---- the loop

-- what is still to be found behind the front and the first i entries
abbrev pub Left : Headers → Box → Sets → Bool → List Entry → List ℕ → ℕ → Option Header
Left hs x q d front s i = left_in hs x q d (front ++ rows_from s 0 i) (rows_from s (row_size * i) (length s / row_size - i))

module _ (hs : Headers) (x : Box) (q : Sets) (d : Bool) (front : List Entry) (s : List ℕ) where
  abbrev mask : ℕ → List Entry
  mask i = front ++ rows_from s 0 i

  pub left_start : (n : ℕ) → n ≡ length s / row_size → left_in hs x q d front (rows_from s 0 n) ≡ Left hs x q d front s 0
  left_start n e = ap₂ (λ (f p : List Entry). left_in hs x q d f p) (sym (append-nil front)) (ap (rows_from s 0) (e ∙ all (length s / row_size)))
    where
      all : (n : ℕ) → n ≡ n - 0
      all n = omega arith

  -- one entry more
  left_again : (i at : ℕ) (found new : Option Header) → i < length s / row_size → at ≡ row_size * i
      → new ≡ lesser (cond (wanted q (row_at s at).actions) (least_in hs (meet arity x (box_of s at)) (missed (front ++ rows_in (take at s)))) None) found
      → lesser (Left hs x q d front s i) found ≡ lesser (Left hs x q d front s (i + 1)) new
  left_again i at found new l e n =
      ap (λ (p : List Entry). lesser (left_in hs x q d (mask i) p) found) (first_of s i l)
      ∙ step (wanted q (row_at s (row_size * i)).actions) refl
      ∙ ap (λ (f : List Entry). lesser (left_in hs x q d f (from s (i + 1))) part) more
      ∙ ap (lesser (Left hs x q d front s (i + 1))) (sym here)
    where
      part : Option Header
      part = lesser (cond (wanted q (row_at s (row_size * i)).actions) (least_in hs (meet arity x (selector (row_at s (row_size * i)))) (missed (mask i))) None) found

      more : mask i ++ row_at s (row_size * i) ∷ [] ≡ mask (i + 1)
      more = append_assoc front (rows_from s 0 i) (row_at s (row_size * i) ∷ []) ∙ ap (front ++◌) (sym (firsts_more s i))

      few : i < length s / row_size → i ≤ length s / row_size
      few l = omega arith

      here : new ≡ part
      here =
          n
          ∙ ap (λ (f : List Entry). lesser (cond (wanted q (row_at s at).actions) (least_in hs (meet arity x (box_of s at)) (missed (front ++ f))) None) found) (firsts_in s i at (few l) e)
          ∙ ap (λ (at : ℕ). lesser (cond (wanted q (row_at s at).actions) (least_in hs (meet arity x (box_of s at)) (missed (mask i))) None) found) e

      step : (t : Bool) → wanted q (row_at s (row_size * i)).actions ≡ t
          → lesser (left_in hs x q d (mask i) (row_at s (row_size * i) ∷ from s (i + 1))) found
          ≡ lesser (left_in hs x q d (mask i ++ row_at s (row_size * i) ∷ []) (from s (i + 1))) part
      step true w =
          judged_wanted hs x q d (mask i) (row_at s (row_size * i)) (from s (i + 1)) found w
          ∙ ap (λ (t : Bool). lesser (left_in hs x q d (mask i ++ row_at s (row_size * i) ∷ []) (from s (i + 1))) (lesser (cond t (least_in hs (meet arity x (selector (row_at s (row_size * i)))) (missed (mask i))) None) found)) (sym w)
      step false w =
          judged_passed hs x q d (mask i) (row_at s (row_size * i)) (from s (i + 1)) found w
          ∙ ap (λ (t : Bool). lesser (left_in hs x q d (mask i ++ row_at s (row_size * i) ∷ []) (from s (i + 1))) (lesser (cond t (least_in hs (meet arity x (selector (row_at s (row_size * i)))) (missed (mask i))) None) found)) (sym w)

  -- its set is wanted, it has a part of x, and it was searched; or not
  module _ (i at : ℕ) (found : Option Header) (t : Bool) (l : i < length s / row_size) (e : at ≡ row_size * i)
      (w : t ≡ (wanted q (row_at s at).actions && proper arity (meet arity x (box_of s at)))) where
    abbrev wants : Bool
    wants = wanted q (row_at s at).actions

    abbrev inner : Box
    inner = meet arity x (box_of s at)

    abbrev part : Option Header
    part = least_in hs (meet arity x (box_of s at)) (missed (front ++ rows_in (take at s)))

    pub left_searched : (new : Option Header) → t ≡ true → new ≡ lesser (least_in hs (meet arity x (box_of s at)) (missed (front ++ rows_in (take at s)))) found
        → lesser (Left hs x q d front s i) found ≡ lesser (Left hs x q d front s (i + 1)) new
    left_searched new y n = left_again i at found new l e (n ∙ ap (λ (t : Bool). lesser (cond t part None) found) (sym (and_left wants (proper arity inner) (sym w ∙ y))))

    pub left_passed : t ≡ false → lesser (Left hs x q d front s i) found ≡ lesser (Left hs x q d front s (i + 1)) found
    left_passed n = left_again i at found found l e (go wants (sym w ∙ n))
      where
        go : (v : Bool) → (v && proper arity inner) ≡ false → found ≡ lesser (cond v part None) found
        go false p = refl
        go true p = ap (λ (r : Option Header). lesser r found) (sym (crossed_none hs (missed (front ++ rows_in (take at s))) inner p))

  -- the entry that was searched catches what was found; if nothing before the end does, it is uncaught
  pub part_caught_by : (i at : ℕ) (h : Header) → i < length s / row_size → at ≡ row_size * i
      → least_in hs (meet arity x (box_of s at)) (missed (front ++ rows_in (take at s))) ≡ Some h → Some i ≡ catcher (rows_in s) h
  part_caught_by i at h l e f =
      left_caught_by hs x front (rows_from s 0 i) (row_at s (row_size * i)) (from s (i + 1)) i h (box_of s (row_size * i)) (length_rows s 0 i) (λ h. refl)
      (sym (ap₂ (λ (at : ℕ) (p : List Entry). least_in hs (meet arity x (box_of s at)) (missed (front ++ p))) e (firsts_in s i at (few l) e)) ∙ f)
      ∙ sym (ap (λ (p : List Entry). catcher p h) parts)
    where
      few : i < length s / row_size → i ≤ length s / row_size
      few l = omega arith

      all : (n i : ℕ) → i < n → n ≡ i + (n - i)
      all n i l = omega arith

      from_zero : (i : ℕ) → 0 + row_size * i ≡ row_size * i
      from_zero i = omega arith

      parts : rows_in s ≡ rows_from s 0 i ++ row_at s (row_size * i) ∷ from s (i + 1)
      parts =
          ap (rows_from s 0) (all (length s / row_size) i l)
          ∙ rows_split s 0 i (length s / row_size - i)
          ∙ ap (λ (p : List Entry). rows_from s 0 i ++ p) (ap (λ (at : ℕ). rows_from s at (length s / row_size - i)) (from_zero i) ∙ first_of s i l)

  -- nothing is left
  pub left_exhausted : (i at : ℕ) (found : Option Header) → i < length s / row_size → at ≡ row_size * i
      → lesser (least_in hs x (missed (front ++ rows_in (take at s)))) found ≡ found → found ≡ lesser (Left hs x q d front s i) found
  left_exhausted i at found l e g =
      sym (judged_exhausted hs x q d (mask i) (from s i) found (ap (λ (f : List Entry). lesser (least_in hs x (missed (front ++ f))) found) (sym (firsts_in s i at (few l) e)) ∙ g))
    where
      few : i < length s / row_size → i ≤ length s / row_size
      few l = omega arith

  -- the end of the list
  left_end : (i : ℕ) → i ≡ length s / row_size → Left hs x q d front s i ≡ cond d (least_in hs x (missed (front ++ rows_in s))) None
  left_end i e =
      ap (left_in hs x q d (mask i)) (ap (rows_from s (row_size * i)) (none i (length s / row_size) e))
      ∙ judged_end hs x q d (mask i)
      ∙ ap (λ (j : ℕ). cond d (least_in hs x (missed (mask j))) None) e
    where
      none : (i n : ℕ) → i ≡ n → n - i ≡ 0
      none i n e = omega arith

  pub left_uncaught : (i : ℕ) (found r : Option Header) → i ≤ length s / row_size → length s / row_size ≤ i → d ≡ true
      → r ≡ lesser (least_in hs x (missed (front ++ rows_in s))) found → r ≡ lesser (Left hs x q d front s i) found
  left_uncaught i found r l m t e = e ∙ ap (λ (f : Option Header). lesser f found) (sym (left_end i (omega arith) ∙ ap (λ (t : Bool). cond t (least_in hs x (missed (front ++ rows_in s))) None) t))

  pub left_none : (i : ℕ) (found : Option Header) → i ≤ length s / row_size → length s / row_size ≤ i → d ≡ false → found ≡ lesser (Left hs x q d front s i) found
  left_none i found l m t = ap (λ (f : Option Header). lesser f found) (sym (left_end i (omega arith) ∙ ap (λ (t : Bool). cond t (least_in hs x (missed (front ++ rows_in s))) None) t))

-- ---- least_treated_behind

-- the front alone leaves nothing
pub front_exhausts : (hs : Headers) (x : Box) (q : Sets) (d : Bool) (front p : List Entry) (best : Option Header) (t : Bool) → t ≡ true
    → (t ≡ true → lesser (least_in hs x (missed (front ++ []))) best ≡ best) → best ≡ lesser (left_in hs x q d front p) best
front_exhausts hs x q d front p best t e f =
    sym (judged_exhausted hs x q d front p best (ap (λ (es : List Entry). lesser (least_in hs x (missed es)) best) (sym (append-nil front)) ∙ f e))

-- ---- a search's answer

pub answer_at : (f : Option Header) (c : Option ℕ) (h : Header) → f ≡ Some h → with_catcher h c ≡ finding_answer f c
answer_at f c h e = ap (λ (f : Option Header). finding_answer f c) (sym e)

pub answer_none : (f : Option Header) (c : Option ℕ) → f ≡ None → accepted [] ≡ finding_answer f c
answer_none f c e = ap (λ (f : Option Header). finding_answer f c) (sym e)
