-- The bytes lent are the slot's file, for every length.
-- Assumes nothing.
use mathlib.Core.Path.{◌≡◌, ◌∙◌, ap}
use lib.ListN.{length}
use borrow.Author.Rules.{rules}
use Rattle.policy.specs.Header.{headers}
use Rattle.reconcile.specs.steps.Stage.{stage_in, added}
use Rattle.bench.proofs.Slotting.{slot_lends}
use Rattle.bench.proofs.slots.add_slot.Goals as goal

pub returns : goal.returns
returns c =
    let k : length c.args.slot.bytes ≡ 965 = search rules in
    c.add_list.ensures ∙ ap (added headers (stage_in c.args.s.now)) (slot_lends c.args.slot _ k c.file_end-end.ensures)
