use Rattle.policy.proofs.Loops.{first_differs, none_differs}
use Rattle.policy.proofs.sides.precede.Goals as goal

pub returns-then-x-f : goal.returns-then-x-f
returns-then-x-f c = search first_differs

pub returns : goal.returns
returns c = search none_differs
