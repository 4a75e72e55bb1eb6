-- Comparison of two files (01, "Lookup and comparison"): whether the first refines the second, else the least header where it doesn't.
use Rattle.policy.specs.declared.header.Header.{Header}
use Rattle.std.specs.Prelude.{ℕ, List, [], ◌++◌, map, None, Option, Some, Result, Ok, Err}
use Rattle.compare.specs.declared.files.RefusedFile.{RefusedFile}
use Rattle.compare.specs.declared.files.RefusedFile.TheVariants.{First, Second}
use Rattle.policy.specs.declared.entry.Entry.{Entry}
use Rattle.policy.specs.Header.{headers}
use Rattle.policy.specs.Least.{least}
use Rattle.policy.specs.Policy.{exceeds}
use Rattle.policy.specs.Refusals.{Answer, refusal, accepted, numbers, first_of}
use Rattle.wire.specs.Format.{list_limit, list_in}
use Rattle.region.specs.ListChecks.{list_checks}

-- an answer, and the number of the file that a refusal is about: 1 or 2, and 0 where there is no refusal
pub record ComparisonAnswer : Type 0 where
  pub file : ℕ
  pub answer : Answer

-- the least header that the first list allows an action that the second does not; nothing says that there is none
abbrev pub verdict : Option Header → ComparisonAnswer
verdict None = record { file = 0; answer = accepted [] }
verdict (Some h) = record { file = 0; answer = accepted (numbers h) }

-- 01's number and values of each case: yes carries nothing, no carries the header
abbrev pub compared : Result (Option Header) RefusedFile → ComparisonAnswer
compared (Ok c) = verdict c
compared (Err (First r)) = record { file = 1; answer = refusal r }
compared (Err (Second r)) = record { file = 2; answer = refusal r }

-- the checks of a file, their refusals said of file number k
abbrev pub about : ℕ → Option Answer → Option ComparisonAnswer
about k None = None
about k (Some a) = Some (record { file = k; answer = a })

-- the least header that p allows an action that q does not; p refines q if there is none (Definition 6)
abbrev pub excess_of : List Entry → List Entry → Option Header
excess_of p q = least headers (exceeds p q)

-- checks 1 to 5 on the first file, then on the second, then the comparison
unfoldable pub comparison_of : List ℕ → List ℕ → ComparisonAnswer
comparison_of s t =
    first_of (map (about 1) (list_checks s list_limit) ++ map (about 2) (list_checks t list_limit)) (verdict (excess_of (list_in s) (list_in t)))
