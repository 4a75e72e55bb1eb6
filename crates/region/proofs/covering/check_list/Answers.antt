-- A refused file stays refused; of a good one check 5 decides.
use Rattle.std.proofs.lemmas.Result.{err_from_is_err_and}
use Rattle.wire.specs.Format.{filed_limit}
use Rattle.region.proofs.ListChecks.{good_size, file_refused, gap_decides}
use Rattle.region.proofs.covering.check_list.Goals as goal

pub filed_gap-requires : goal.filed_gap-requires
filed_gap-requires c = good_size c.args.file.now filed_limit c.check_file.result c.check_file.ensures _ c.in_ok-n.was

pub returns-in_err-n : goal.returns-in_err-n
returns-in_err-n c =
    let p = err_from_is_err_and c.from_residual.result c.from_residual.ensures.1 in
    rw (p.1, p.2) (search (file_refused, c.in_err-n.was))

pub returns : goal.returns
returns c = search (gap_decides, c.in_ok-n.was)
