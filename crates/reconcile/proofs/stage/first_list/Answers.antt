-- Each entry is offered, and kept if something of it is left.
-- Assumes nothing.
use borrow.Author.Rules.{rules}
use native.Mathlib.Omega.{arith}
use Rattle.reconcile.proofs.Keeping.{keeps_none}
use Rattle.reconcile.proofs.Staging.{filed_entry, first_shadowed, first_kept, first_all}
use Rattle.reconcile.proofs.stage.first_list.Goals as goal

pub loop-j-init : goal.loop-j-init
loop-j-init c = (search rules, search (keeps_none, rules))

pub entry_in-e-requires : goal.entry_in-e-requires
entry_in-e-requires c = search (filed_entry, rules)

pub loop-j-preserved-then-not-is_left : goal.loop-j-preserved-then-not-is_left
loop-j-preserved-then-not-is_left c = (search rules, search (first_shadowed, rules))

pub bounds-entries-n : goal.bounds-entries-n
bounds-entries-n c = omega (arith, c.loop-j-test.true, c.filed_count-j-end.ensures, c.loop-j.invariant.0)

pub put_row-requires : goal.put_row-requires
put_row-requires c = omega (arith, c.loop-j.invariant.1.room, c.loop-j-test.true, c.filed_count-j-end.ensures, c.loop-j.invariant.0)

pub loop-j-preserved : goal.loop-j-preserved
loop-j-preserved c =
    let l = c.loop-j in
    let a = c.args in (
      search rules,
      first_kept a.file.now l.rows l.entries l.n l.j c.filed_count-j-end.result _ _ _ l.invariant.1 c.loop-j-test.true c.entry_in-e.ensures c.sides_of-sides.ensures c.is_left.ensures _ c.if-not-is_left.false (omega (arith, c.loop-j-test.true, c.filed_count-j-end.ensures, l.invariant.0)) c.put_row.ensures,
    )

pub returns : goal.returns
returns c =
    let l = c.loop-j in
    first_all c.args.file.now l.rows l.entries l.n l.j c.filed_count-j-end.result c.filed_count-j-end.ensures l.invariant.1 c.loop-j-test.false
