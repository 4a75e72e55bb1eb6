-- What the code answers at the end of a merging, in 01's terms.
use Rattle.reconcile.specs.declared.ending.Merged.{Merged}
use Rattle.policy.specs.declared.refusal.Refusal.{Refusal}
use Rattle.std.specs.Prelude.{ℕ, List, [], ◌∷◌, Result, Ok, Err}
use Rattle.policy.specs.Refusals.{Answer, refusal, accepted}

-- the same of the code's answer
abbrev pub ending : Result Merged Refusal → List ℕ → Answer × List ℕ
ending (Ok m) buffer = (accepted (m.count ∷ m.length ∷ []), buffer)
ending (Err r) buffer = (refusal r, buffer)
