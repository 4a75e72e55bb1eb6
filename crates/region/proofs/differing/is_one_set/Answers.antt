use Rattle.std.proofs.Common.{◌-◌, rules}
use Rattle.std.proofs.iter.runs.Sources.{range_runs_back, ranges}
use Rattle.region.proofs.OneSet.{all_one_set}
use Rattle.region.proofs.differing.is_one_set.Goals as goal

pub returns : goal.returns
returns c =
    let a = c.args in
    let p = c.all.ensures.runs in
    let q = c.rev.ensures.runs p.0 p.0.seen p.1 in
    λ e. all_one_set a.file.now a.s a.n λ i l. let k = (range_runs_back q.0 q.0.seen).3 (a.n - 1 - i) in search (rules, ranges)
