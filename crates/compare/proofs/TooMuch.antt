-- What the loop over the first list's rows finds: an entry's part of it by first match in the second list, and then the rest.
-- Assumes nothing.
use Rattle.std.specs.Prelude.{None, Option}
use Prim.Native.Nat.{ℕ, ◌+◌, ◌*◌, ◌-◌, ◌/◌, ◌<◌, ◌≤◌}
use native.Mathlib.Omega.{arith}
use native.Mathlib.Numerals.{add-one}
use mathlib.Core.Path.{◌≡◌, refl, sym, ◌∙◌, ap, ap₂, fun_ext}
use mathlib.Core.Bool.{Bool, true, false, ◌&&◌}
use mathlib.Core.List.{List, [], ◌∷◌, ◌++◌}
use lib.ListN.{length, get_or, take, drop, drop_of_length-le}
use lib.Seq.{take-suc, take_at, drop-cons}
use Rattle.policy.specs.declared.header.Header.{Header}
use Rattle.policy.specs.declared.entry.Entry.{Entry}
use Rattle.policy.specs.Box.{meet}
use Rattle.policy.specs.Header.{arity, fields, Box, lies, everything, Headers, headers}
use Rattle.policy.specs.steps.Findings.{lesser}
use Rattle.policy.specs.Least.{least_in}
use Rattle.policy.specs.Entry.{selector}
use Rattle.policy.specs.Policy.{Allowed, actions, uncaught, allowed, is_caught, missed, exceeds, Covering}
use Rattle.policy.specs.Sides.{box_of}
use Rattle.policy.specs.steps.Rows.{row_size, row_at, rows_from, rows_in}
use Rattle.policy.proofs.Bool.{clash}
use Rattle.policy.proofs.Box.{meet_is}
use Rattle.policy.proofs.Slices.{length_rows, rows_at, rows_split}
use Rattle.policy.proofs.Least.{agree, lesser_assoc, lesser_comm, lesser_last}
use Rattle.region.specs.declared.treated.Sets.{Sets}
use Rattle.region.specs.declared.treated.Sets.TheVariants.{Lacking}
use Rattle.region.specs.steps.Treated.{judged}
use Rattle.policy.proofs.HeaderSet.{in_everything}
use Rattle.region.proofs.Everywhere.{least_everywhere}
use Rattle.region.proofs.Uses.{exceeds_step, exceeds_end}
use Rattle.region.proofs.Judging.{firsts_in}
use Rattle.compare.specs.Comparison.{excess_of}

-- a box is its part in the box of everything
everywhere : (hs : Headers) (b : Box) (P : Header → Bool) → least_in hs (meet arity everything b) P ≡ least_in hs b P
unfolding least_in
everywhere hs b P = agree hs (λ h. lies (meet arity everything b) h && P h) (λ h. lies b h && P h) λ h a. ap (◌&& P h) (meet_is arity everything b (fields h) ∙ ap (◌&& lies b h) (in_everything hs h a))

-- a covering list leaves no header to whether uncaught ones are wanted
covered : (hs : Headers) (p front : List Entry) (b : Box) (q : Sets) → Covering hs p
    → least_in hs b (λ h. missed front h && judged q false (allowed p h)) ≡ least_in hs b (λ h. missed front h && judged q true (allowed p h))
unfolding least_in
covered hs p front b q c =
    agree hs (λ h. lies b h && (missed front h && judged q false (allowed p h))) (λ h. lies b h && (missed front h && judged q true (allowed p h)))
    λ h a. ap (λ (t : Bool). lies b h && (missed front h && t)) (go (allowed p h) (c h a))
  where
    go : (a : Allowed) → is_caught a ≡ true → judged q false a ≡ judged q true a
    go (actions s) e = refl
    go uncaught e = clash e refl

module _ (s t : List ℕ) where
  -- what is left to be found behind the first i rows of the first list
  abbrev rest : ℕ → Option Header
  rest i = least_in headers everything (λ h. missed (take i (rows_in s)) h && exceeds (drop i (rows_in s)) (rows_in t) h)

  -- with that, what was found so far is the answer
  abbrev pub FoundUpTo : Option Header → ℕ → Type 0
  FoundUpTo found i =
      excess_of (rows_in s) (rows_in t) ≡ lesser (least_in headers everything (λ h. missed (take i (rows_in s)) h && exceeds (drop i (rows_in s)) (rows_in t) h)) found

  pub found_none : FoundUpTo None 0
  found_none = sym (lesser_last (rest 0) ∙ least_everywhere headers (exceeds (rows_in s) (rows_in t)))

  pub found_next : (found r : Option Header) (i set : ℕ) (b : Box) → i < length s / row_size → FoundUpTo found i
      → b ≡ box_of s (row_size * i) → set ≡ (row_at s (row_size * i)).actions
      → Covering headers (rows_in t)
      → r ≡ lesser (least_in headers b (λ h. missed (rows_in (take (row_size * i - 0) s)) h && judged (Lacking set) false (allowed (rows_in t) h))) found
      → FoundUpTo r (i + 1)
  found_next found r i set b l e u v k f =
      e
      ∙ ap (λ (c : Option Header). lesser c found)
      (ap (λ (p : List Entry). least_in headers everything (λ h. missed (take i (rows_in s)) h && exceeds p (rows_in t) h)) suffix
      ∙ exceeds_step headers everything (take i (rows_in s)) x (drop (i + 1) (rows_in s)) (rows_in t)
      ∙ ap₂ lesser (everywhere headers (selector x) (λ h. missed (take i (rows_in s)) h && judged (Lacking x.actions) true (allowed (rows_in t) h)))
      (ap (λ (p : List Entry). least_in headers everything (λ h. missed p h && exceeds (drop (i + 1) (rows_in s)) (rows_in t) h)) (sym prefix))
      ∙ lesser_comm own (rest (i + 1)))
      ∙ lesser_assoc (rest (i + 1)) own found
      ∙ ap (lesser (rest (i + 1))) (sym (f ∙ ap (λ (c : Option Header). lesser c found) same))
    where
      x : Entry
      x = row_at s (row_size * i)

      own : Option Header
      own = least_in headers (selector x) (λ h. missed (take i (rows_in s)) h && judged (Lacking x.actions) true (allowed (rows_in t) h))

      short : i < length (rows_in s)
      short = go (length s / row_size) (length (rows_in s)) l (length_rows s 0 (length s / row_size))
        where
          go : (n m : ℕ) → i < n → m ≡ n → i < m
          go n m l e = omega arith

      at_start : (n : ℕ) → 0 + n ≡ n
      at_start n = omega arith

      no_start : (n : ℕ) → n - 0 ≡ n
      no_start n = omega arith

      small : (n : ℕ) → i < n → i ≤ n
      small n l = omega arith

      here : get_or (rows_in s) i (row_at s 0) ≡ x
      here = rows_at s 0 (length s / row_size) i (row_at s 0) l ∙ ap (row_at s) (at_start (row_size * i))

      prefix : take (i + 1) (rows_in s) ≡ take i (rows_in s) ++ x ∷ []
      prefix = ap (λ (n : ℕ). take n (rows_in s)) (add-one i) ∙ take-suc (rows_in s) i (row_at s 0) short ∙ ap (λ (e : Entry). take i (rows_in s) ++ e ∷ []) here

      suffix : drop i (rows_in s) ≡ x ∷ drop (i + 1) (rows_in s)
      suffix = drop-cons (rows_in s) i (row_at s 0) short ∙ ap₂ (λ (e : Entry) (n : ℕ). e ∷ drop n (rows_in s)) here (sym (add-one i))

      first : rows_from s 0 i ≡ take i (rows_in s)
      first = sym (ap (take i) (ap (rows_from s 0) (parts (length s / row_size) l) ∙ rows_split s 0 i (length s / row_size - i)) ∙ take_at (rows_from s 0 i) (rows_from s (0 + row_size * i) (length s / row_size - i)) i (length_rows s 0 i))
        where
          parts : (n : ℕ) → i < n → n ≡ i + (n - i)
          parts n l = omega arith

      same : least_in headers b (λ h. missed (rows_in (take (row_size * i - 0) s)) h && judged (Lacking set) false (allowed (rows_in t) h)) ≡ own
      same = covered headers (rows_in t) (rows_in (take (row_size * i - 0) s)) b (Lacking set) k ∙ ap₂ (λ (b : Box) (P : Header → Bool). least_in headers b P) u
          (fun_ext λ h. ap₂ (λ (p : List Entry) (n : ℕ). missed p h && judged (Lacking n) true (allowed (rows_in t) h)) (firsts_in s i (row_size * i - 0) (small (length s / row_size) l) (no_start (row_size * i)) ∙ first) v)

  pub found_all : (found : Option Header) (i : ℕ) → length s / row_size ≤ i → FoundUpTo found i → found ≡ excess_of (rows_in s) (rows_in t)
  found_all found i l e =
      sym (e ∙ ap (λ (c : Option Header). lesser c found)
      (ap (λ (p : List Entry). least_in headers everything (λ h. missed (take i (rows_in s)) h && exceeds p (rows_in t) h)) (drop_of_length-le (rows_in s) (long (length s / row_size) (length (rows_in s)) (length_rows s 0 (length s / row_size)) l))
      ∙ exceeds_end headers everything (take i (rows_in s)) (rows_in t)))
    where
      long : (n m : ℕ) → m ≡ n → n ≤ i → m ≤ i
      long n m e l = omega arith
