-- The lines of answers, by the answers' cases.
-- Assumes nothing.
use Prim.Native.Nat.{ℕ}
use mathlib.Core.Path.{◌≡◌, sym, ap}
use mathlib.Core.Bool.{Bool, cond}
use mathlib.Core.List.{◌++◌}
use lib.ListN.{get_or}
use Rattle.policy.specs.declared.refusal.Refusal.{Refusal}
use Rattle.policy.specs.Refusals.{refusal}
use Rattle.policy.proofs.Refusals.{refusal_refuses}
use Rattle.report.specs.Text.{ascii, decimal}
use Rattle.report.specs.Report.{refused_line, filing_line}

pub line_refused : (p : ℕ) (r : Refusal) → refused_line p (refusal r) ≡ filing_line p (refusal r)
line_refused p r = sym (ap (λ (t : Bool). cond t (ascii "filed " ++ decimal p ++ ascii " " ++ decimal (get_or (refusal r).values 0 0) ++ ascii "\n") (refused_line p (refusal r))) (refusal_refuses r))
