-- The working list of the slots' lists.
use Rattle.std.specs.Prelude.{◌≡◌, List, [], ◌∷◌, None, Option, Some}
use Rattle.policy.specs.declared.entry.Entry.{Entry}
use Rattle.policy.specs.Header.{headers}
use Rattle.wire.specs.steps.Fits.{AllFit}
use Rattle.reconcile.specs.Rules.{Working}
use Rattle.reconcile.specs.steps.Stage.{added_all}
use Rattle.bench.specs.Book.{Book, in_force}

-- what holds of every list in a slot
abbrev pub EachSlot : (List Entry → Type 0) → Book → Type 0
EachSlot P [] = Unit {0}
EachSlot P (None ∷ k) = EachSlot P k
EachSlot P (Some p ∷ k) = P p × EachSlot P k

-- w is the working list of the lists in force, and their numbers fit their widths
abbrev pub Staged : Book → Option Working → Type 0
Staged k w = (w ≡ added_all headers None (in_force k)) × EachSlot AllFit k
