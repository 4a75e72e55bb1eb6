-- A match of a header is the answer; a miss carries the invariant on.
use Rattle.std.proofs.Common.{sym, ◌∙◌, ap, refl}
use Rattle.lookup.specs.Lookup.{caught_answer}
use Rattle.lookup.proofs.TableLookup.{table_matched, table_unmatched}
use Rattle.lookup.proofs.table.lookup_table.Goals as goal

pub returns-then-catches_header : goal.returns-then-catches_header
returns-then-catches_header c =
    ap caught_answer
    (table_matched c.args.table.now c.args.h c.loop-i.i _ _ c.loop-i-test.true refl c.loop-i.invariant (sym c.catches_header.ensures ∙ c.if-catches_header.true))

pub loop-i-preserved : goal.loop-i-preserved
loop-i-preserved c =
    table_unmatched c.args.table.now c.args.h c.loop-i.i _ _ c.loop-i-test.true refl c.loop-i.invariant (sym c.catches_header.ensures ∙ c.if-catches_header.false)
