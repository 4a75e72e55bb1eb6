-- What was written is read again.
use borrow.Author.Rules.{rules}
use Rattle.wire.proofs.RoundTrip.{written_again}
use Rattle.wire.proofs.write.write_list.Goals as goal

pub returns-clause-again : goal.returns-clause-again
returns-clause-again c = search (written_again c.args.list c.args.buffer.now (search rules), c.in_ok-check_held.was)
