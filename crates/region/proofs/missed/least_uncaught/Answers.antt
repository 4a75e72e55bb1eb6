-- The list ends with ALL, or is searched.
use Rattle.region.proofs.LastEntries.{no_gap_in}
use Rattle.region.proofs.missed.least_uncaught.Goals as goal

pub returns-then-ends_with_all : goal.returns-then-ends_with_all
returns-then-ends_with_all c = search no_gap_in
