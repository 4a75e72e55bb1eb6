-- A file that passes is decoded and searched.
use Rattle.std.proofs.lemmas.Result.{err_from_is_err_and}
use Rattle.wire.specs.Format.{list_limit}
use Rattle.region.proofs.ListChecks.{good_size}
use Rattle.region.proofs.Searching.{file_refused, file_searched}
use Rattle.region.proofs.search.search_file.Goals as goal

pub search_good-requires : goal.search_good-requires
search_good-requires c =
    good_size c.args.file.now list_limit c.check_file.result c.check_file.ensures _ c.in_ok-n.was

pub returns-in_err-n : goal.returns-in_err-n
returns-in_err-n c =
    let p = err_from_is_err_and c.from_residual.result c.from_residual.ensures.1 in
    rw (p.1, p.2) (search (file_refused, c.in_err-n.was))

pub returns : goal.returns
returns c = search (file_searched, c.in_ok-n.was)
