-- What is decoded are the rows of the file.
-- Assumes nothing.
use borrow.Author.Rules.{rules}
use Rattle.wire.proofs.Sizes.{first_counted}
use Rattle.reconcile.proofs.Pairs.{decoded_rows, crossed_list}
use Rattle.reconcile.proofs.cross.cross_list.Goals as goal

pub decode_entries-requires : goal.decode_entries-requires
decode_entries-requires c = (search first_counted, search rules)

pub cross_rows-requires : goal.cross_rows-requires
cross_rows-requires c = search (decoded_rows, rules)

pub returns : goal.returns
returns c = search (crossed_list, rules)
