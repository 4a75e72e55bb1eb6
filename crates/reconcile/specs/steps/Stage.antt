-- The working list after the parties so far, as the code keeps it: in the first places of an array; 257 entries say that it is crowded.
use Rattle.std.specs.Prelude.{ℕ, min, cond, List, [], ◌∷◌, leb, take, None, Option, Some, Bool, false, ltb}
use Rattle.policy.specs.declared.entry.Entry.{Entry}
use Rattle.policy.specs.declared.refusal.Refusal.TheVariants.{Bare, Crowded}
use Rattle.policy.specs.Header.{Headers}
use Rattle.policy.specs.Least.{least}
use Rattle.policy.specs.Policy.{allowed}
use Rattle.wire.specs.Format.{filed_limit, list_limit, records_in, entries_from}
use Rattle.reconcile.specs.declared.stage.Stage.{Stage}
use Rattle.reconcile.specs.Rules.{is_empty, trimmed, Working, list, crowded, limited, next, Merging, refused, settled}

-- the working list of the first n entries
abbrev pub working_in : List Entry → ℕ → Working
working_in es n = cond (leb n list_limit) (list (take n es)) crowded

-- the working list of a stage
abbrev pub working_held : Stage → Working
working_held s = working_in s.entries s.count

-- no list yet, or the working list
abbrev pub stage_in : Option Stage → Option Working
stage_in None = None
stage_in (Some s) = Some (working_held s)

-- there are more entries than a list may have
abbrev pub crowded_in : Option Stage → Bool
crowded_in None = false
crowded_in (Some s) = ltb list_limit s.count

-- a party's list in a file: no more entries are read than a filed list has
abbrev pub filed_in : List ℕ → List Entry
filed_in s = entries_from s 0 (min (records_in s) filed_limit)

-- rules 1 and 2 for one party more, the starting one included
abbrev pub added : Headers → Option Working → List Entry → Option Working
added hs None p = Some (limited (trimmed hs p))
added hs (Some w) p = Some (next hs w p)

abbrev pub added_all : Headers → Option Working → List (List Entry) → Option Working
added_all hs w [] = w
added_all hs w (p ∷ ps) = added_all hs (added hs w p) ps

-- rules 3 and 4 for the working list
abbrev pub ended : Headers → Option Working → Merging
ended hs None = refused Bare
ended hs (Some crowded) = refused Crowded
ended hs (Some (list w)) = settled hs (least hs λ h. is_empty (allowed w h)) w
