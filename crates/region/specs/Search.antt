-- Searching a region (01): the least header of a box that a file's list treats in a wanted way.
use Rattle.policy.specs.declared.refusal.Refusal.{Refusal}
use Rattle.std.specs.Prelude.{ℕ, Bool, true, false, cond, not, List, [], ◌++◌, ◌==◌, None, Option, Some, Result, Ok, Err}
use Rattle.policy.specs.declared.header.Header.{Header}
use Rattle.policy.specs.declared.entry.Entry.{Entry}
use Rattle.policy.specs.Header.{Box, headers}
use Rattle.policy.specs.Direction.{crossed_box}
use Rattle.policy.specs.Least.{least_in}
use Rattle.policy.specs.Policy.{catcher, Allowed, actions, uncaught, allowed, missed}
use Rattle.policy.specs.Refusals.{Answer, numbers, refusal, accepted, first_of}
use Rattle.wire.specs.Format.{list_limit, list_in}
use Rattle.wire.specs.Checks.{file_checks}
use Rattle.lookup.specs.Lookup.{caught_values}
use Rattle.region.specs.declared.search.Want.{Want}
use Rattle.region.specs.declared.search.Want.TheVariants.{Uncaught, CaughtBy, Differs}
use Rattle.region.specs.declared.search.FoundHeader.{FoundHeader}

-- the header is caught by entry number k
abbrev pub is_by : ℕ → Option ℕ → Bool
is_by k (Some i) = i == k
is_by k None = false

-- an uncaught header counts as differing from every set
abbrev pub differs_from : ℕ → Allowed → Bool
differs_from s (actions a) = not (a == s)
differs_from s uncaught = true

-- the list treats the header in the wanted way: not caught, caught by the given entry, or allowed a set differing from the given one
abbrev pub treated : Want → List Entry → Header → Bool
treated Uncaught p h = missed p h
treated (CaughtBy k) p h = is_by k (catcher p h)
treated (Differs s) p h = differs_from s (allowed p h)

-- the least header of a box with a property: a crossed box holds no header
abbrev pub least_in_box : Box → (Header → Bool) → Option Header
least_in_box b P = cond (crossed_box b) None (least_in headers b P)

-- a header, and behind it the number of the entry that catches it (02, Wish 5), nothing for "uncaught"
abbrev pub with_catcher : Header → Option ℕ → Answer
with_catcher h c = accepted (numbers h ++ caught_values c)

-- a finding in 01's terms: the header and what catches it in the list, or none
abbrev pub found_answer : List Entry → Option Header → Answer
found_answer p (Some h) = with_catcher h (catcher p h)
found_answer p None = accepted []

-- checks 1 to 4 with up to 256 entries, and then the least such header of the box
abbrev pub search_of : List ℕ → Box → Want → Answer
search_of s b want = first_of (file_checks s list_limit) (found_answer (list_in s) (least_in_box b (treated want (list_in s))))

-- the answer of a search in 01's terms
abbrev pub searched : Result (Option FoundHeader) Refusal → Answer
searched (Ok (Some f)) = with_catcher f.header f.entry
searched (Ok None) = accepted []
searched (Err r) = refusal r
