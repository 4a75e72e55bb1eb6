-- Rules 3 and 4 in the words of the search: which action sets are wanted.
-- Assumes nothing.
use mathlib.Core.Path.{◌≡◌, refl, ◌∙◌, ap}
use mathlib.Core.Bool.{Bool, true, false, not, ◌&&◌}
use mathlib.Core.List.{List}
use Rattle.policy.specs.declared.header.Header.{Header}
use Rattle.policy.specs.declared.entry.Entry.{Entry}
use Rattle.policy.specs.Entry.{matches}
use Rattle.policy.specs.Policy.{Allowed, actions, uncaught, allowed, missed}
use Rattle.region.specs.declared.treated.Sets.TheVariants.{Same, Other}
use Rattle.region.specs.steps.Treated.{judged}
use Rattle.reconcile.specs.Rules.{same, is_empty}
use Rattle.reconcile.proofs.Striking.{Differs}

-- conflict asks for the empty set
pub empty_judged : (a : Allowed) → is_empty a ≡ judged (Same 0) false a
empty_judged (actions a) = refl
empty_judged uncaught = refl

-- striking asks, of the headers that e catches, for any other set, and for what is not caught
pub differs_judged : (front : List Entry) (e : Entry) (back : List Entry) (h : Header)
    → (missed front h && Differs e back h) ≡ (matches e h && (missed front h && judged (Other e.actions) true (allowed back h)))
differs_judged front e back h = turn (missed front h) (matches e h) (not (same (allowed back h) (actions e.actions))) ∙ ap (λ (t : Bool). matches e h && (missed front h && t)) (go (allowed back h))
  where
    turn : (a b c : Bool) → (a && (b && c)) ≡ (b && (a && c))
    turn true true c = refl
    turn true false c = refl
    turn false true c = refl
    turn false false c = refl

    go : (a : Allowed) → not (same a (actions e.actions)) ≡ judged (Other e.actions) true a
    go (actions a) = refl
    go uncaught = refl
