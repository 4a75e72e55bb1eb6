use Rattle.std.proofs.Common.{ap, refl}
use Rattle.bench.specs.Calls.{CallResult}
use Rattle.report.proofs.Progress.{filed_more, all_filed, all_put}
use Rattle.report.proofs.page.Page.put_filings.Goals as goal

pub loop-left-preserved : goal.loop-left-preserved
loop-left-preserved c =
    let l = c.loop-left in
    let cut = c.split_at.ensures in
    let f = c.file-f.ensures.answers in
    filed_more l.left.now _ _ _ _ _ l.invariant c.in-len1-up.len_at_least refl c.file_run.ensures cut.front cut.back (ap (λ (x : CallResult). x.0) f) (ap (λ (x : CallResult). x.1) f) c.put_filing.ensures

pub returns-clause-bench : goal.returns-clause-bench
returns-clause-bench c = search all_filed

pub returns-clause-lines : goal.returns-clause-lines
returns-clause-lines c = search all_put
