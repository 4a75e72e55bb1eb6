-- What a list allows a header (Definition 4), judged by the action sets that are wanted; and what a search of it hands up.
use Rattle.std.specs.Prelude.{◌≡◌, ℕ, Bool, true, not, List, [], ◌∷◌, ◌==◌, None, Option, Some}
use Rattle.policy.specs.declared.header.Header.{Header}
use Rattle.policy.specs.declared.entry.Entry.{Entry}
use Rattle.policy.specs.Actions.{subset}
use Rattle.policy.specs.Policy.{catcher, Allowed, actions, uncaught}
use Rattle.policy.specs.Refusals.{Answer, accepted}
use Rattle.policy.specs.steps.Findings.{lesser}
use Rattle.region.specs.declared.treated.Sets.{Sets}
use Rattle.region.specs.declared.treated.Sets.TheVariants.{Same, Other, Lacking}
use Rattle.region.specs.declared.treated.Finding.{Finding}
use Rattle.region.specs.Search.{with_catcher}
use Rattle.region.specs.steps.Corner.{sooner}

-- the set a is wanted
abbrev pub wanted : Sets → ℕ → Bool
wanted (Same s) a = a == s
wanted (Other s) a = not (a == s)
wanted (Lacking s) a = not (subset s a)

-- what is allowed is a wanted set, or nothing is, and that is wanted
abbrev pub judged : Sets → Bool → Allowed → Bool
judged q d (actions a) = wanted q a
judged q d uncaught = d

-- every entry has the action set s
abbrev pub OneSet : ℕ → List Entry → Type 0
OneSet s [] = Unit {0}
OneSet s (e ∷ p) = (e.actions ≡ s) × OneSet s p

-- what catches the header found in the list p, if it comes before best
abbrev pub CaughtBefore : List Entry → Option Header → Option Header → Option ℕ → Type 0
CaughtBefore p best found by = (h : Header) → found ≡ Some h → sooner found best ≡ true → by ≡ catcher p h

-- a search of the list p hands up the lesser of a least header and best, and what catches it if it is not best
pub record Finds (p : List Entry) (least best : Option Header) (r : Finding) : Type 0 where
  pub header : r.found ≡ lesser least best
  pub entry : CaughtBefore p best r.found r.by

-- both in 01's terms
abbrev pub finding_answer : Option Header → Option ℕ → Answer
finding_answer (Some h) c = with_catcher h c
finding_answer None c = accepted []
