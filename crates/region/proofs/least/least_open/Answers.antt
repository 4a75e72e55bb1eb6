-- The part of the box in the box of everything is searched, if it is proper.
use Rattle.std.proofs.Common.{sym, ◌∙◌, rules}
use Rattle.policy.proofs.Bool.{not_false}
use Rattle.region.proofs.Everywhere.{part_fits, part_searched, part_crossed, rows_few}
use Rattle.region.proofs.least.least_open.Goals as goal

pub returns-then-not-is_proper : goal.returns-then-not-is_proper
returns-then-not-is_proper c = search part_crossed

pub least_in_piece-requires : goal.least_in_piece-requires
least_in_piece-requires c = (search rules, record { is_proper = sym c.is_proper.ensures ∙ not_false c.if-not-is_proper.false-raw; fitting = search part_fits; few = search rows_few })

pub returns : goal.returns
returns c = search part_searched
