-- How many entries meet a box: no more for a part of it, and fewer for a part outside one of them. This is the number that falls.
-- Assumes nothing.
use Rattle.std.proofs.Common.{◌≡◌, ℕ, zero, suc, ◌+◌, ◌<◌, ◌≤◌, Bool, true, false, cond, List, [], ◌∷◌, length, sym, refl, ap, ◌∙◌, arith}
use Rattle.policy.specs.declared.entry.Entry.{Entry}
use Rattle.policy.specs.Row.{Row}
use Rattle.policy.specs.Box.{inside, proper, meet}
use Rattle.policy.specs.steps.Boxes.{lows}
use Rattle.policy.specs.Header.{arity, Box}
use Rattle.policy.specs.Entry.{selector}
use Rattle.policy.proofs.Bool.{clash, is_false, and_intro, and_left, and_right}
use Rattle.policy.proofs.Box.{corner_in_lem, in_proper, meet_is}
use Rattle.region.specs.steps.Corner.{holds_corner, selector_in, meeting}
use Rattle.region.specs.steps.Narrowing.{Part}
use Rattle.region.proofs.Members.{first_in, later_in}
use Rattle.region.proofs.Split.{Outside}

-- two boxes that meet have a row in common: the low corner of their common part
shared_left : (p e : Box) → proper arity (meet arity p e) ≡ true → inside arity p (lows arity (meet arity p e)) ≡ true
shared_left p e m =
    and_left (inside arity p (lows arity (meet arity p e))) (inside arity e (lows arity (meet arity p e)))
    (sym (meet_is arity p e (lows arity (meet arity p e))) ∙ corner_in_lem arity (meet arity p e) m)

shared_right : (p e : Box) → proper arity (meet arity p e) ≡ true → inside arity e (lows arity (meet arity p e)) ≡ true
shared_right p e m =
    and_right (inside arity p (lows arity (meet arity p e))) (inside arity e (lows arity (meet arity p e)))
    (sym (meet_is arity p e (lows arity (meet arity p e))) ∙ corner_in_lem arity (meet arity p e) m)

-- and boxes with a row in common meet
meets : (b e : Box) (x : Row ℕ arity) → inside arity b x ≡ true → inside arity e x ≡ true → proper arity (meet arity b e) ≡ true
meets b e x i j = in_proper arity (meet arity b e) x (meet_is arity b e x ∙ and_intro i j)

-- a box meets what holds its low corner
pub meets_corner : (b s : Box) → proper arity b ≡ true → holds_corner s b ≡ true → proper arity (meet arity b s) ≡ true
meets_corner b s p c = meets b s (lows arity b) (corner_in_lem arity b p) c

abbrev one : Box → Entry → ℕ
one b e = cond (proper arity (meet arity b (selector e))) 1 0

module _ (p b : Box) (part : Part p b) where
  one_le : (e : Entry) → one p e ≤ one b e
  one_le e = go (proper arity (meet arity p (selector e))) refl (proper arity (meet arity b (selector e))) refl
    where
      go : (t : Bool) → proper arity (meet arity p (selector e)) ≡ t → (u : Bool) → proper arity (meet arity b (selector e)) ≡ u → cond t 1 0 ≤ cond u 1 0
      go false q u r = omega arith
      go true q true r = omega arith
      go true q false r = clash (meets b (selector e) (lows arity (meet arity p (selector e))) (part (lows arity (meet arity p (selector e))) (shared_left p (selector e) q)) (shared_right p (selector e) q)) r

  pub meeting_le : (es : List Entry) → meeting es p ≤ meeting es b
  meeting_le [] = omega arith
  meeting_le (e ∷ es) = sum (one p e) (one b e) (meeting es p) (meeting es b) (one_le e) (meeting_le es)
    where
      sum : (i j m n : ℕ) → i ≤ j → m ≤ n → i + m ≤ j + n
      sum i j m n p q = omega arith

  module _ (s : Box) (out : Outside p s) where
    apart : proper arity (meet arity p s) ≡ false
    apart = is_false (proper arity (meet arity p s)) λ m. clash (shared_right p s m) (out (lows arity (meet arity p s)) (shared_left p s m))

    pub meeting_lt : proper arity (meet arity b s) ≡ true → (es : List Entry) (i : ℕ) → i < length es → s ≡ selector_in es i → meeting es p < meeting es b
    meeting_lt m [] i l q = absurd (omega arith)
    meeting_lt m (e ∷ es) zero l q =
        less (one p e) (one b e) (meeting es p) (meeting es b)
        (ap (λ (r : Box). cond (proper arity (meet arity p r)) 1 0) (sym (q ∙ first_in e es)) ∙ ap (λ (t : Bool). cond t 1 0) apart)
        (ap (λ (r : Box). cond (proper arity (meet arity b r)) 1 0) (sym (q ∙ first_in e es)) ∙ ap (λ (t : Bool). cond t 1 0) m)
        (meeting_le es)
      where
        less : (i j m n : ℕ) → i ≡ 0 → j ≡ 1 → m ≤ n → i + m < j + n
        less i j m n p q r = omega arith
    meeting_lt m (e ∷ es) (suc i) l q = sum (one p e) (one b e) (meeting es p) (meeting es b) (one_le e) (meeting_lt m es i (down i (length es) l) (q ∙ later_in e es i))
      where
        sum : (i j m n : ℕ) → i ≤ j → m < n → i + m < j + n
        sum i j m n p q = omega arith

        down : (i n : ℕ) → suc i < suc n → i < n
        down i n l = omega arith

pub meeting_all : (es : List Entry) (b : Box) → meeting es b ≤ length es
meeting_all [] b = omega arith
meeting_all (e ∷ es) b = go (proper arity (meet arity b (selector e))) (meeting es b) (length es) (meeting_all es b)
  where
    go : (t : Bool) (m n : ℕ) → m ≤ n → cond t 1 0 + m ≤ suc n
    go true m n l = omega arith
    go false m n l = omega arith
