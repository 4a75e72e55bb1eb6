-- Nothing is merged.
use Rattle.report.proofs.Outcome.{of_refused_merging}
use Rattle.report.proofs.page.Page.put_merging.Goals as goal

pub returns-in-Err : goal.returns-in-Err
returns-in-Err c = search of_refused_merging
