-- A refused filing is answered as filing answers it; else the merging of the copy is handed on. The bench goes on with any list of calls that led to it.
-- Assumes nothing.
use Rattle.bench.proofs.Trying.{trial_refused, trial_merged}
use Rattle.bench.proofs.calls.Bench.trial.Goals as goal

pub returns-in-Err : goal.returns-in-Err
returns-in-Err c =
    let g = c.args in
    let k = trial_refused g.self c.file-filed.result.bench g.party g.bytes.now g.out.now c.file-filed.result.answer (c.file-filed.ensures.answers, c.file-filed.ensures.traced) c.in-Err.r c.refusal_of.result c.in-Err.is c.refusal_of.ensures.0 c.refusal_of.ensures.1 in
    record { answers = k.0; traced = k.1 }

pub returns-in-Ok : goal.returns-in-Ok
returns-in-Ok c =
    let g = c.args in
    let k = trial_merged g.self c.file-filed.result.bench g.party g.bytes.now g.out.now c.file-filed.result.answer (c.file-filed.ensures.answers, c.file-filed.ensures.traced) _ c.merge-tried.result c.merge-tried.new.out c.in-Ok.is (c.merge-tried.ensures.answers, c.merge-tried.ensures.traced) in
    record { answers = k.0; traced = k.1 }
