-- The file fits, and is put at the start; or it does not, and nothing is written.
-- Assumes nothing.
use Rattle.reconcile.proofs.Writing.{narrow_made, done_made}
use Rattle.reconcile.proofs.ending.write_merged.Goals as goal

pub returns-then-buffer-size : goal.returns-then-buffer-size
returns-then-buffer-size c = search narrow_made

pub returns : goal.returns
returns c = search done_made
