use borrow.Author.Rules.{rules}
use Rattle.policy.proofs.Ranked.{ranks_action}
use Rattle.policy.proofs.ranking.Ranking.best_of.Goals as goal

pub overflow_shr-a : goal.overflow_shr-a
overflow_shr-a c = ranks_action c.args.self.numbers.now c.args.self.all c.loop-k.k-index (search rules)

pub overflow_shl-result : goal.overflow_shl-result
overflow_shl-result c = ranks_action c.args.self.numbers.now c.args.self.all c.loop-k.k-index (search rules)
