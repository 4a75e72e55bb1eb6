-- Each number has its wish.
-- Assumes nothing.
use Rattle.measured.proofs.Results.{wants_uncaught, wants_caught, wants_other}
use Rattle.measured.proofs.searches.want_of.Goals as goal

pub returns-then-want-eq0 : goal.returns-then-want-eq0
returns-then-want-eq0 c = search wants_uncaught

pub returns-then-want-eq1 : goal.returns-then-want-eq1
returns-then-want-eq1 c = search wants_caught

pub returns : goal.returns
returns c = search wants_other
