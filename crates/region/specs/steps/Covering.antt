-- Check 5 by itself, and a checked file whose records are decoded into rows.
use Rattle.policy.specs.declared.refusal.Refusal.{Refusal}
use Rattle.policy.specs.declared.header.Header.{Header}
use Rattle.std.specs.Prelude.{◌≡◌, ℕ, ◌*◌, ◌≤◌, List, [], ◌∷◌, length, take, Option, Result, Ok, Err}
use Rattle.policy.specs.declared.entry.Entry.{Entry}
use Rattle.policy.specs.declared.refusal.Refusal.TheVariants.{Gap}
use Rattle.policy.specs.Refusals.{Answer, accepted, refuse_at, first_of}
use Rattle.policy.specs.steps.Rows.{row_size, rows_in}
use Rattle.wire.specs.Format.{count_in}
use Rattle.region.specs.ListChecks.{list_checks}

-- check 5 alone, of a list of n entries
abbrev pub gap_checked : Option Header → ℕ → Answer
gap_checked gap n = first_of (refuse_at Gap gap ∷ []) (accepted (n ∷ []))

-- what they answer: the first refusal, or n
unfoldable pub list_checks_of : List ℕ → ℕ → Answer
list_checks_of s limit = first_of (list_checks s limit) (accepted (count_in s ∷ []))

-- the first n rows are the list
abbrev pub InRows : List ℕ → ℕ → List Entry → Type 0
InRows rows n p = (row_size * n ≤ length rows) × (rows_in (take (row_size * n) rows) ≡ p)

-- they are, if it was accepted
abbrev pub Decoded : Result ℕ Refusal → List ℕ → List Entry → Type 0
Decoded (Ok n) rows p = InRows rows n p
Decoded (Err r) rows p = Unit {0}
