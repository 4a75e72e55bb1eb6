-- The bytes lent are the slot's file, for every length.
use mathlib.Core.Path.{◌≡◌}
use lib.ListN.{length}
use borrow.Author.Rules.{rules}
use Rattle.bench.proofs.Slotting.{slot_lends}
use Rattle.bench.proofs.Naming.{vacant_none, filled_catches}
use Rattle.bench.proofs.named.catcher_in.Goals as goal

pub returns-then-is_vacant : goal.returns-then-is_vacant
returns-then-is_vacant c = vacant_none c.args.slot c.args.h _ c.is_vacant.ensures.0 c.if-is_vacant.true

pub returns : goal.returns
returns c =
    let k : length c.args.slot.bytes ≡ 965 = search rules in
    filled_catches c.args.slot c.args.h _ _ _ c.is_vacant.ensures.0 c.if-is_vacant.false
    (slot_lends c.args.slot _ k c.file_end-end.ensures) c.catcher_in_file.ensures
