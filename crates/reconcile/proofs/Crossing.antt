-- Rule 1: what a crossed list allows is what its lists allow in common.
-- Assumes nothing.
use mathlib.Core.Path.{◌≡◌, refl, ◌∙◌, ap, ap₂}
use mathlib.Core.Bool.{Bool, true, false, cond, ◌&&◌}
use mathlib.Core.List.{List, [], ◌∷◌, map}
use Rattle.policy.specs.declared.header.Header.{Header}
use Rattle.policy.specs.declared.entry.Entry.{Entry}
use Rattle.policy.specs.Header.{arity, fields}
use Rattle.policy.specs.Entry.{selector, matches, both}
use Rattle.policy.specs.Policy.{Allowed, actions, uncaught, allowed}
use Rattle.policy.proofs.Box.{meet_is}
use Rattle.policy.proofs.Policy.{or_next, allowed_append}
use Rattle.reconcile.specs.Rules.{in_both, cross}

-- the intersection matches where both match
pub both_is : (d e : Entry) (h : Header) → matches (both d e) h ≡ (matches d h && matches e h)
both_is d e h = meet_is arity (selector d) (selector e) (fields h)

row : (d : Entry) (q : List Entry) (h : Header) → allowed (map (both d) q) h ≡ cond (matches d h) (in_both (actions d.actions) (allowed q h)) uncaught
row d [] h = none (matches d h)
  where
    none : (m : Bool) → uncaught ≡ cond m uncaught uncaught
    none true = refl
    none false = refl
row d (e ∷ q) h =
    ap (λ (m : Bool). cond m (actions (both d e).actions) (allowed (map (both d) q) h)) (both_is d e h)
    ∙ go (matches d h) (matches e h) (row d q h)
  where
    go : (m n : Bool) → allowed (map (both d) q) h ≡ cond m (in_both (actions d.actions) (allowed q h)) uncaught
        → cond (m && n) (actions (both d e).actions) (allowed (map (both d) q) h)
        ≡ cond m (in_both (actions d.actions) (cond n (actions e.actions) (allowed q h))) uncaught
    go true true i = refl
    go true false i = i
    go false n i = i

pub cross_is : (p q : List Entry) (h : Header) → allowed (cross p q) h ≡ in_both (allowed p h) (allowed q h)
cross_is [] q h = refl
cross_is (d ∷ p) q h =
    allowed_append (map (both d) q) (cross p q) h
    ∙ ap₂ or_next (row d q h) (cross_is p q h)
    ∙ go (matches d h) (allowed p h) (allowed q h)
  where
    go : (m : Bool) (x y : Allowed) → or_next (cond m (in_both (actions d.actions) y) uncaught) (in_both x y) ≡ in_both (cond m (actions d.actions) x) y
    go true x (actions b) = refl
    go true (actions a) uncaught = refl
    go true uncaught uncaught = refl
    go false x y = refl
