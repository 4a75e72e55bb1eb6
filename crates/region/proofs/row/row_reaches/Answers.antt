use Rattle.std.proofs.Common.{◌≡◌, ℕ, ◌<◌, ◌≤◌, true, false, rules}
use Rattle.std.proofs.iter.runs.Sources.{range_runs, ranges}
use Rattle.policy.specs.Header.{arity}
use Rattle.policy.specs.Sides.{field}
use Rattle.region.proofs.Holding.{ends_are}
use Rattle.region.proofs.row.row_reaches.Goals as goal

pub returns : goal.returns
returns c =
    let a = c.args in
    let yes : c.all.result ≡ true → (j : ℕ) → j < arity → (field a.b.now 0 j).high ≤ (field a.s.now a.at j).high = λ e j l. let k = (range_runs c.all.ensures.runs.0 c.all.ensures.runs.0.seen).3 j in search (rules, ranges) in
    let no : c.all.result ≡ false → (j : ℕ) × (j < arity) × ((field a.s.now a.at j).high < (field a.b.now 0 j).high) = search (rules, ranges) in
    ends_are a.s.now a.at a.b.now c.all.result yes no
