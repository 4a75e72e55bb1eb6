-- Those before place i rank no action of the set.
use mathlib.Core.Path.{◌≡◌}
use lib.ListN.{drop}
use Rattle.policy.specs.Ranking.{best}
use Rattle.policy.proofs.ranking.Ranking.best_of.Given as goal

abbrev pub invariant-loop-k : goal.invariant-loop-k
invariant-loop-k l = best (drop l.k-index l.self.numbers.now) l.a ≡ best l.self.numbers.now l.a
