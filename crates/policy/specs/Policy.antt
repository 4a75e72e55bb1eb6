-- Definitions 1 to 7 of 004, over lists of entries; a definition that speaks of every header is over a set hs of them.
-- 01 counts entries from 0. 004's bottom, that no entry catches the header, is `uncaught`.
use Rattle.std.specs.Prelude.{ℕ, ◌+◌, ◌≡◌, Bool, true, false, not, cond, List, [], ◌∷◌, None, Option, Some}
use Rattle.policy.specs.declared.header.Header.{Header}
use Rattle.policy.specs.declared.entry.Entry.{Entry}
use Rattle.policy.specs.Header.{Headers, among}
use Rattle.policy.specs.Actions.{subset}
use Rattle.policy.specs.Entry.{matches}

-- Definition 3: the entry that catches the header is the first that matches it; entries are numbered from i
abbrev pub catcher_from : ℕ → List Entry → Header → Option ℕ
catcher_from i [] h = None
catcher_from i (e ∷ p) h = cond (matches e h) (Some i) (catcher_from (i + 1) p h)

abbrev pub catcher : List Entry → Header → Option ℕ
catcher p h = catcher_from 0 p h

-- Definition 4: what a list allows a header is the set of the entry that catches it
pub data Allowed : Type 0 where
  actions : ℕ → Allowed
  uncaught : Allowed

abbrev pub allowed : List Entry → Header → Allowed
allowed [] h = uncaught
allowed (e ∷ p) h = cond (matches e h) (actions e.actions) (allowed p h)

-- some entry catches the header
abbrev pub is_caught : Allowed → Bool
is_caught (actions a) = true
is_caught uncaught = false

abbrev pub caught : List Entry → Header → Bool
caught p h = is_caught (allowed p h)

-- no entry catches the header
abbrev pub missed : List Entry → Header → Bool
missed p h = not (caught p h)

-- every action of the first is in the second
abbrev pub at_most : Allowed → Allowed → Bool
at_most (actions a) (actions b) = subset a b
at_most (actions a) uncaught = false
at_most uncaught b = true

-- p allows the header an action that q does not
abbrev pub exceeds : List Entry → List Entry → Header → Bool
exceeds p q h = not (at_most (allowed p h) (allowed q h))

-- Definition 1's condition on a policy: every header is caught (01: the list is covering)
abbrev pub Covering : Headers → List Entry → Type 0
Covering hs p = (h : Header) → among hs h ≡ true → caught p h ≡ true

-- Definition 5: the two allow every header the same
abbrev pub Equivalent : Headers → List Entry → List Entry → Type 0
Equivalent hs p q = (h : Header) → among hs h ≡ true → allowed p h ≡ allowed q h

-- Definition 6: p allows every header a subset of what q allows it. 004 says it of policies; here p and q may be any lists, and a header that p
-- leaves uncaught is allowed a subset of anything
abbrev pub Refines : Headers → List Entry → List Entry → Type 0
Refines hs p q = (h : Header) → among hs h ≡ true → at_most (allowed p h) (allowed q h) ≡ true

-- Definition 7: no header is left without an action
abbrev pub Implementable : Headers → List Entry → Type 0
Implementable hs p = (h : Header) → among hs h ≡ true → allowed p h ≡ actions 0 → ⊥
