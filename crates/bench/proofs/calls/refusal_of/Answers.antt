-- Where nothing is named, the answer is the refusal.
-- Assumes nothing.
use mathlib.Core.Path.{refl}
use Rattle.bench.proofs.Calling.{refused_plainly}
use Rattle.bench.proofs.calls.refusal_of.Goals as goal

pub returns : goal.returns
returns c = (refl, refused_plainly c.args.r c.none_named.result c.none_named.ensures.1)
