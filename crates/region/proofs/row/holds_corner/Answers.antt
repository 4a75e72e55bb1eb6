use Rattle.std.proofs.Common.{◌≡◌, ℕ, ◌<◌, true, false, rules}
use Rattle.std.proofs.iter.runs.Sources.{range_runs, ranges}
use Rattle.policy.specs.Header.{arity}
use Rattle.region.proofs.Holding.{holds_at, corner_is}
use Rattle.region.proofs.row.holds_corner.Goals as goal

pub returns : goal.returns
returns c =
    let a = c.args in
    let yes : c.all.result ≡ true → (j : ℕ) → j < arity → holds_at a.s.now a.at a.b.now j ≡ true = λ e j l. let k = (range_runs c.all.ensures.runs.0 c.all.ensures.runs.0.seen).3 j in search (rules, ranges) in
    let no : c.all.result ≡ false → (j : ℕ) × (j < arity) × (holds_at a.s.now a.at a.b.now j ≡ false) = search (rules, ranges) in
    corner_is a.s.now a.at a.b.now c.all.result yes no
