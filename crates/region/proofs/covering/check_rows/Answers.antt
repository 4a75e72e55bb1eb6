-- A refused file stays refused; of a good one check 5 decides, and its rows are the list.
use Rattle.std.proofs.lemmas.Result.{err_from_is_err_and}
use Rattle.std.proofs.Common.{arith}
use Rattle.wire.specs.Format.{list_limit}
use Rattle.region.proofs.ListChecks.{good_size, file_refused, gap_decides, list_decoded}
use Rattle.wire.proofs.Sizes.{records_counted}
use Rattle.region.proofs.covering.check_rows.Goals as goal

pub decoded_gap-requires : goal.decoded_gap-requires
decoded_gap-requires c =
    let g = good_size c.args.file.now list_limit c.check_file.result c.check_file.ensures _ c.in_ok-n.was in
    (g.0, (g.1.0, omega (arith, records_counted c.args.file.now _ g.0)))

pub returns-in_err-n : goal.returns-in_err-n
returns-in_err-n c =
    let p = err_from_is_err_and c.from_residual.result c.from_residual.ensures.1 in
    rw (p.1, p.2) ((search (file_refused, c.in_err-n.was), tt))

pub returns : goal.returns
returns c = (search (gap_decides, c.in_ok-n.was), search (list_decoded, c.in_ok-n.was))
