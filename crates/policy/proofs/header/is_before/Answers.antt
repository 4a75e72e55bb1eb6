-- The order of headers.
use Rattle.std.proofs.Common.{◌∙◌, ◌≡◌, Bool, true, false, refl, cond, ◌||◌, ◌&&◌, Less, Equal, Greater, is_lt, Ordering, Option, Some}
use Rattle.std.specs.Ordering.{is_some_and, partial_ordering_then}
use Rattle.policy.proofs.header.is_before.Goals as goal

next : (a b : Bool) (o : Option Ordering) (t : Bool) → is_some_and is_lt o ≡ t → is_some_and is_lt (partial_ordering_then (Some (cond a Less (cond b Equal Greater))) o) ≡ (a || (b && t))
next true b o t e = refl
next false true o t e = e
next false false o t e = refl

last : (a b : Bool) → is_some_and is_lt (Some (cond a Less (cond b Equal Greater))) ≡ (a || (b && false))
last true b = refl
last false true = refl
last false false = refl

pub returns : goal.returns
returns c = c.lt.ensures ∙ search (next, last) depth 8
