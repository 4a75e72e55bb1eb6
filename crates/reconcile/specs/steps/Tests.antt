-- Tests that decide the definitions.
use Rattle.std.specs.Prelude.{Bool, not, ◌&&◌, List}
use Rattle.policy.specs.declared.entry.Entry.{Entry}
use Rattle.policy.specs.Header.{Headers}
use Rattle.policy.specs.Entry.{matches}
use Rattle.policy.specs.Policy.{actions, allowed, missed}
use Rattle.reconcile.specs.Rules.{no_header, same}

-- the same as a test
abbrev pub collected : Headers → List Entry → Entry → List Entry → Bool
collected hs front e back = no_header hs λ h. missed front h && (matches e h && not (same (allowed back h) (actions e.actions)))
