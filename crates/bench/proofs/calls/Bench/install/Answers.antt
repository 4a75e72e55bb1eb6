-- Without a ranking it is refused; with one, the stage of all slots is merged and installed by the rules, of which the promises hold.
-- Assumes nothing.
use Rattle.reconcile.specs.steps.Stage.{stage_in}
use Rattle.bench.proofs.Calling.{tested, install_right, install_refused}
use Rattle.bench.proofs.calls.Bench.install.Goals as goal

pub returns-then-not-is_ranking : goal.returns-then-not-is_ranking
returns-then-not-is_ranking c =
    let t = c.is_ranking in
    let k = install_refused c.args.self c.args.ranking.now c.args.out.now t.result c.refusal_of.result t.ensures c.if-not-is_ranking.true c.refusal_of.ensures.0 c.refusal_of.ensures.1 in
    record { answers = k.0; traced = k.1 }

pub returns : goal.returns
returns c =
    let t = c.is_ranking in
    let s = c.add_slots-stage in
    let m = c.end_installing-installed in
    let k = install_right c.args.self c.args.out.now m.new.buffer (stage_in s.result) s.ensures m.result c.result_of.result c.result_of.ensures c.args.ranking.now (tested c.args.ranking.now t.result t.ensures c.if-not-is_ranking.false) m.ensures in
    record { answers = k.0; traced = k.1 }
