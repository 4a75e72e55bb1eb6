-- Checks 1 to 5 of a file: it holds a covering list (01, "What is turned down").
use Rattle.policy.specs.declared.header.Header.{Header}
use Rattle.std.specs.Prelude.{ℕ, List, [], ◌∷◌, ◌++◌, Option}
use Rattle.policy.specs.declared.entry.Entry.{Entry}
use Rattle.policy.specs.declared.refusal.Refusal.TheVariants.{Gap}
use Rattle.policy.specs.Header.{headers}
use Rattle.policy.specs.Least.{least}
use Rattle.policy.specs.Policy.{missed}
use Rattle.policy.specs.Refusals.{Answer, refuse_at}
use Rattle.wire.specs.Format.{list_in}
use Rattle.wire.specs.Checks.{file_checks}

-- 5, gap: the least header not caught
abbrev pub gap_of : List Entry → Option Header
gap_of p = least headers (missed p)

-- checks 1 to 5 of a file whose list may have up to `limit` entries, in their order
abbrev pub list_checks : List ℕ → ℕ → List (Option Answer)
list_checks s limit = file_checks s limit ++ refuse_at Gap (gap_of (list_in s)) ∷ []
