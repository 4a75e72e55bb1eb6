-- A box that is searched by the parts above a row that is cut off it.
use Rattle.policy.specs.declared.header.Header.{Header}
use Rattle.std.specs.Prelude.{◌≡◌, ℕ, ◌-◌, ◌<◌, ◌≤◌, true, List, length, Option}
use Rattle.policy.specs.declared.entry.Entry.{Entry}
use Rattle.policy.specs.Box.{proper}
use Rattle.policy.specs.Header.{arity, Box, Headers}
use Rattle.policy.specs.steps.Findings.{lesser}
use Rattle.policy.specs.Least.{least_in}
use Rattle.policy.specs.Policy.{missed}
use Rattle.region.specs.steps.Corner.{holds_corner, selector_in, meeting}
use Rattle.region.specs.steps.Narrowing.{Fitting}

-- a proper box within the widths of a header that at most so many entries meet
pub record Searchable (es : List Entry) (b : Box) (left : ℕ) : Type 0 where
  pub is_proper : proper arity b ≡ true
  pub fitting : Fitting b
  pub few : meeting es b ≤ left

-- such a box whose low corner the selector s of an entry holds
pub record Ready (es : List Entry) (s b : Box) (left : ℕ) : Type 0 where
  pub number : ℕ
  pub listed : number < length es
  pub its : s ≡ selector_in es number
  pub corner_held : holds_corner s b ≡ true
  pub box : Searchable es b left

-- what is missed of x, below best, is what is missed of the rest, below the finding
abbrev pub Same : Headers → List Entry → Box → Option Header → Box → Option Header → Type 0
Same hs es x best rest found = lesser (least_in hs x (missed es)) best ≡ lesser (least_in hs rest (missed es)) found

-- the rest of x after a search of its other parts: fewer entries meet it
pub record Remainder (hs : Headers) (es : List Entry) (x : Box) (best : Option Header) (left : ℕ) (rest : Box) (found : Option Header) : Type 0 where
  pub some : 1 ≤ left
  pub box : Searchable es rest (left - 1)
  pub same : Same hs es x best rest found
