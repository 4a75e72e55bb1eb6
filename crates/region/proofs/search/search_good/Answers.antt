-- A crossed box holds nothing; each want is a search that stands already.
use Rattle.region.proofs.Searching.{box_crossed, uncaught_wanted, entry_wanted, other_set_wanted}
use Rattle.region.proofs.search.search_good.Goals as goal

pub returns-then-is_crossed_box : goal.returns-then-is_crossed_box
returns-then-is_crossed_box c = search box_crossed

pub returns-in-Uncaught : goal.returns-in-Uncaught
returns-in-Uncaught c = search uncaught_wanted

pub returns-in-CaughtBy : goal.returns-in-CaughtBy
returns-in-CaughtBy c = search entry_wanted

pub returns-in-Differs : goal.returns-in-Differs
returns-in-Differs c = search other_set_wanted
