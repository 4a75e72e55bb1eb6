-- The place of a box is 0.
use native.Mathlib.Nat.{add-zero}
use Rattle.policy.proofs.sides.high.Goals as goal

pub returns : goal.returns
returns c = simp add-zero
