-- The stage of all slots is merged by the rules, of which demand 3 holds.
-- Assumes nothing.
use Rattle.reconcile.specs.steps.Stage.{stage_in}
use Rattle.bench.proofs.Calling.{merge_right}
use Rattle.bench.proofs.calls.Bench.merge.Goals as goal

pub returns : goal.returns
returns c =
    let s = c.add_slots-stage in
    let m = c.end_merging-merged in
    let k = merge_right c.args.self c.args.out.now m.new.buffer (stage_in s.result) s.ensures m.result c.result_of.result c.result_of.ensures m.ensures in
    record { answers = k.0; traced = k.1 }
