-- Each pair is passed, or offered and kept; the 257th that is kept is one too many.
-- Assumes nothing.
use borrow.Author.Rules.{rules}
use native.Mathlib.Omega.{arith}
use Rattle.policy.specs.steps.Rows.{rows_in}
use Rattle.reconcile.proofs.Keeping.{keeps_none}
use Rattle.reconcile.proofs.Pairs.{their_entry, turn_ends, turn_apart, turn_shadowed, turn_full, turn_kept, crossed_all}
use Rattle.reconcile.proofs.cross.cross_rows.Goals as goal

pub loop-i-init : goal.loop-i-init
loop-i-init c = search (keeps_none, rules)

pub loop-j-preserved-then-not-meets_row : goal.loop-j-preserved-then-not-meets_row
loop-j-preserved-then-not-meets_row c =
    let l = c.loop-j in
    turn_apart c.args.kept.now l.entries c.args.theirs.now l.rows l.n c.loop-i.i _ l.j c.sides_of-sides.ensures l.invariant (search rules) _ c.meets_row.ensures c.if-not-meets_row.true

pub loop-j-preserved-then-not-is_left : goal.loop-j-preserved-then-not-is_left
loop-j-preserved-then-not-is_left c =
    let l = c.loop-j in
    turn_shadowed c.args.kept.now l.entries c.args.theirs.now l.rows l.n c.loop-i.i _ l.j c.sides_of-sides.ensures l.invariant (search rules) _ _ c.is_left.ensures c.part_in_row-part.ensures c.if-not-is_left.true

pub returns-then-n-ge-LIST_LIMIT : goal.returns-then-n-ge-LIST_LIMIT
returns-then-n-ge-LIST_LIMIT c =
    let l = c.loop-j in
    turn_full c.args.kept.now l.entries c.args.theirs.now l.rows l.n c.loop-i.i _ l.j c.sides_of-sides.ensures l.invariant (search rules) _ _ c.is_left.ensures c.part_in_row-part.ensures c.loop-i-test.true c.if-not-is_left.false c.if-n-ge-LIST_LIMIT.true

pub entry_in-requires : goal.entry_in-requires
entry_in-requires c = search (their_entry, rules)

pub put_row-requires : goal.put_row-requires
put_row-requires c = let l = c.loop-j in omega (arith, l.invariant.room, c.if-n-ge-LIST_LIMIT.false)

pub loop-j-preserved : goal.loop-j-preserved
loop-j-preserved c =
    let l = c.loop-j in
    turn_kept c.args.kept.now l.entries c.args.theirs.now l.rows l.n c.loop-i.i _ l.j c.sides_of-sides.ensures l.invariant (search rules) _ _ c.is_left.ensures c.part_in_row-part.ensures c.args.file.now _ _ _ c.requires.1 c.entry_in.ensures c.both_entries-e.ensures c.if-not-is_left.false (search rules) c.put_row.ensures

pub loop-i-preserved : goal.loop-i-preserved
loop-i-preserved c =
    let l = c.loop-j in
    turn_ends c.args.kept.now l.entries c.args.theirs.now l.rows l.n c.loop-i.i l.j c.loop-i-test.true (search rules) l.invariant

pub returns : goal.returns
returns c =
    let l = c.loop-i in
    crossed_all c.args.kept.now (rows_in c.args.theirs.now) l.entries l.rows l.n l.i (search rules) l.invariant
