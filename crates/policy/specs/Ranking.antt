-- Rankings of the actions, for installing (02, Wish 2).
use Rattle.std.specs.Prelude.{ℕ, zero, suc, ◌+◌, ◌^◌, Bool, true, cond, ◌&&◌, List, [], ◌∷◌, eqb, ltb, length}
use Rattle.policy.specs.Actions.{has}

-- how many actions there are: bits 0 to 15
abbrev pub action_count : ℕ
action_count = 16

-- each of the numbers is below n
abbrev pub all_below : ℕ → List ℕ → Bool
all_below n [] = true
all_below n (k ∷ ks) = ltb k n && all_below n ks

-- how often k stands among the numbers
abbrev pub times : ℕ → List ℕ → ℕ
times k [] = 0
times k (j ∷ js) = cond (eqb j k) 1 0 + times k js

-- each number below n stands among them once
abbrev pub once_each : ℕ → List ℕ → Bool
once_each zero ks = true
once_each (suc n) ks = eqb (times n ks) 1 && once_each n ks

-- a ranking: 16 bytes, the bit numbers 0 to 15 once each; the best stands first
unfoldable pub is_ranking : List ℕ → Bool
is_ranking ks = eqb (length ks) action_count && (all_below action_count ks && once_each action_count ks)

-- the set of action k alone
abbrev pub only : ℕ → ℕ
only k = 2 ^ k

-- the best-ranked action of a set, alone; the empty set where no number ranks one of its actions
abbrev pub best : List ℕ → ℕ → ℕ
best [] a = 0
best (k ∷ ks) a = cond (has k a) (only k) (best ks a)
