-- A refused file is refused again; one that was read is written as it was (`rewrite_done`).
-- Assumes nothing.
use native.Mathlib.Omega.{arith}
use Rattle.std.proofs.lemmas.Result.{err_from_is_err_and}
use Rattle.bench.proofs.RoundTrips.{rewrite_refused, rewrite_done}
use Rattle.bench.proofs.round_trips.rewrite_file.Goals as goal

pub returns-in_err-list : goal.returns-in_err-list
returns-in_err-list c =
    let p = err_from_is_err_and c.from_residual.result c.from_residual.ensures.1 in
    rw (p.1, p.2) (search (rewrite_refused, c.in_err-list.was))

pub returns : goal.returns
returns c =
    let k = c.read_list in
    search (rewrite_done c.args.file.now c.args.buffer.now k.result k.ensures (λ i. omega (arith, c.type_inv.file i)), c.in_ok-list.was)
