-- A conflict names the entries that catch its header; no other answer names any.
-- Assumes nothing.
use Rattle.bench.proofs.Naming.{result_conflict, result_other}
use Rattle.bench.proofs.calls.result_of.Goals as goal

pub returns-in-Some : goal.returns-in-Some
returns-in-Some c =
    let g = c.args in
    result_conflict g.bench g.m _ c.name_catchers.result c.conflict_in.ensures _ c.in-Some.is c.name_catchers.ensures

pub returns-in-None : goal.returns-in-None
returns-in-None c =
    let g = c.args in
    result_other g.bench g.m _ c.none_named.result c.conflict_in.ensures c.in-None.is c.none_named.ensures.1
