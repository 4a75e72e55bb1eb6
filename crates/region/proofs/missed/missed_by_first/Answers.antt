-- The last entries leave nothing of x, or a header that no entry matches, or all are searched.
use Rattle.region.proofs.LastEntries.{closed_by_last, missed_by_all}
use Rattle.region.proofs.missed.missed_by_first.Goals as goal

pub returns-in-None-first_match : goal.returns-in-None-first_match
returns-in-None-first_match c = search missed_by_all

pub returns-in-None : goal.returns-in-None
returns-in-None c = search closed_by_last
