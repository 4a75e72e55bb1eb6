-- By the two cases of what was found.
use Rattle.region.proofs.Judging.{answer_at, answer_none}
use Rattle.region.proofs.search.answer.Goals as goal

pub returns : goal.returns
returns c = search (answer_at, c.in_ok-header.was)

pub returns-in_err-header : goal.returns-in_err-header
returns-in_err-header c = rw c.from_residual.ensures (search (answer_none, c.in_err-header.was))
