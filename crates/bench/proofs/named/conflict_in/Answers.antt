-- Each arm by its case; no other refusal has the number of a conflict.
use mathlib.Core.Path.{◌≡◌, refl}
use mathlib.Core.Bool.{false}
use lib.Dec.{eqb}
use Rattle.policy.specs.declared.refusal.Refusal.{Refusal}
use Rattle.policy.specs.declared.refusal.Refusal.TheVariants.{Missized, Version, Count, Crossed, Gap, Party, Vacant, Bare, Crowded, Conflict, Narrow, Ranking}
use Rattle.policy.specs.declared.header.Header.{Header}
use Rattle.policy.specs.Refusals.{refusal}
use Rattle.bench.proofs.Naming.{done_no_conflict, conflict_at, no_conflict}
use Rattle.bench.proofs.named.conflict_in.Goals as goal

-- no other refusal has its number
another_number : (r : Refusal) → ((h : Header) → r ≡ Conflict h → ⊥) → eqb (refusal r).number 10 ≡ false
another_number Missized k = refl
another_number Version k = refl
another_number Count k = refl
another_number (Crossed i) k = refl
another_number (Gap h) k = refl
another_number Party k = refl
another_number Vacant k = refl
another_number Bare k = refl
another_number Crowded k = refl
another_number (Conflict h) k = absurd (k h refl)
another_number (Narrow n) k = refl
another_number Ranking k = refl

pub returns-in-Ok : goal.returns-in-Ok
returns-in-Ok c = search done_no_conflict

pub returns-in-Conflict : goal.returns-in-Conflict
returns-in-Conflict c = search conflict_at

pub returns-in_default : goal.returns-in_default
returns-in_default c = no_conflict _ c.in-Err.r c.in-Err.is (another_number c.in-Err.r c.in_default.not-Conflict)
