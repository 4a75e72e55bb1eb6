-- From the opening on, each call carries the list of calls along, and the merging has demand 3 for it.
-- Assumes nothing.
use mathlib.Core.Path.{◌∙◌, sym, ap}
use mathlib.Core.List.{[]}
use Rattle.bench.specs.declared.calls.Bench.{Bench}
use Rattle.bench.specs.Calls.{merging, result_of}
use Rattle.bench.proofs.sequence.file_twice_and_merge.Goals as goal

pub returns : goal.returns
returns c =
    let h0 = c.open-b0.ensures.traced in
    let h1 = c.file-f.ensures.traced [] h0 in
    let h2 = c.file-g.ensures.traced _ h1 in
    let h3 = c.withdraw-w.ensures.traced _ h2 in
    let d = c.merge.ensures.traced _ h3 in
    record { answers = c.merge.ensures.answers ∙ ap (λ (x : Bench). result_of x (merging c.args.out.now)) (sym h3); demand = d.1 }
