-- A list that is refused is not read; one that was written is read as it was (`reread_done`).
-- Assumes nothing.
use Rattle.std.proofs.lemmas.Result.{err_from_is_err_and}
use Rattle.bench.proofs.RoundTrips.{reread_refused, reread_done}
use Rattle.bench.proofs.round_trips.reread_list.Goals as goal

pub returns-in_err-n : goal.returns-in_err-n
returns-in_err-n c =
    let p = err_from_is_err_and c.from_residual.result c.from_residual.ensures.1 in
    rw (p.1, p.2) (search (reread_refused, c.in_err-n.was))

pub returns : goal.returns
returns c = search (reread_done, c.in_ok-n.was)
