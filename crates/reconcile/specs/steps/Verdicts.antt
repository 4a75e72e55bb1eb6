-- What rule 3 makes of a working list, as the code says it: a verdict, and the list's rows.
use Rattle.policy.specs.declared.refusal.Refusal.{Refusal}
use Rattle.std.specs.Prelude.{Some, ℕ, ◌≤◌, ◌≡◌, List, length, take, Result, Ok, Err}
use Rattle.policy.specs.declared.entry.Entry.{Entry}
use Rattle.policy.specs.Header.{headers}
use Rattle.policy.specs.steps.Rows.{rows_from}
use Rattle.wire.specs.Format.{list_limit}
use Rattle.reconcile.specs.declared.stage.Stage.{Stage}
use Rattle.reconcile.specs.Rules.{struck, Merging, refused, merged}
use Rattle.reconcile.specs.steps.Stage.{working_held, ended}

-- what the merging comes to, if p is what rule 4 leaves
abbrev pub judged_as : Result Unit Refusal → List Entry → Merging
judged_as (Err r) p = refused r
judged_as (Ok u) p = merged p

-- the verdict on a stage; where it merges, the working list is within its limit, and these are its rows
pub record Judged (s : Stage) (v : Result Unit Refusal) (rows : List ℕ) : Type 0 where
  pub outcome : judged_as v (struck headers (take s.count s.entries)) ≡ ended headers (Some (working_held s))
  pub few : v ≡ Ok (tt {0}) → s.count ≤ list_limit
  pub same : v ≡ Ok (tt {0}) → rows_from rows 0 (length (take s.count s.entries)) ≡ take s.count s.entries
