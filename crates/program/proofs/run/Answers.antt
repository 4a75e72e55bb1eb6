-- The arrays are as long as they say. Left to a tactic, they would be counted out.
use Rattle.std.proofs.Common.{ℕ, sym, le_of_eq}
use Rattle.std.proofs.lemmas.List.{length-replicate}
use Rattle.program.proofs.run.Goals as goal

pub slice_bounds-run_in-end : goal.slice_bounds-run_in-end
slice_bounds-run_in-end g c = sym (length-replicate {A = ℕ} 65537 0)

pub slice_bounds-run_in-end-2 : goal.slice_bounds-run_in-end-2
slice_bounds-run_in-end-2 g c = sym (length-replicate {A = ℕ} 998711 0)

pub run_in-requires-clause-past_limit : goal.run_in-requires-clause-past_limit
run_in-requires-clause-past_limit g c = length-replicate {A = ℕ} 65537 0

pub run_in-requires-clause-room : goal.run_in-requires-clause-room
run_in-requires-clause-room g c = le_of_eq (sym (length-replicate {A = ℕ} 998711 0))
