use Rattle.std.specs.Prelude.{None, Option, Some}
use Rattle.policy.specs.declared.header.Header.{Header}
use Rattle.std.proofs.Common.{◌-◌, ◌*◌, ◌/◌, length, sym, refl, ap, ◌∙◌, arith}
use Rattle.policy.specs.Header.{headers}
use Rattle.policy.specs.steps.Findings.{lesser}
use Rattle.policy.proofs.Bool.{not_true, not_false}
use Rattle.policy.specs.Sides.{box_of}
use Rattle.policy.specs.steps.Rows.{row_size, rows_in}
use Rattle.region.proofs.Catching.{caught_first, caught_next, left_uncaught_by}
use Rattle.region.proofs.Judging.{left_start, left_searched, left_passed, part_caught_by, left_exhausted, left_uncaught, left_none}
use Rattle.region.proofs.treated.least_treated.Goals as goal

pub loop-i-init : goal.loop-i-init
loop-i-init c =
    let a = c.args in
    (ap (λ (r : Option Header). lesser r a.best) (left_start headers (box_of a.x.now 0) a.q a.uncaught (rows_in a.front.now) a.rows.now (length a.rows.now / row_size) refl), caught_first (rows_in a.rows.now) a.best _)

pub loop-i-preserved-then-not-has_wanted_part : goal.loop-i-preserved-then-not-has_wanted_part
loop-i-preserved-then-not-has_wanted_part c =
    let a = c.args in
    let l = c.loop-i in (
      l.invariant.0
          ∙ left_passed headers (box_of a.x.now 0) a.q a.uncaught (rows_in a.front.now) a.rows.now l.i (row_size * l.i) l.found _ c.loop-i-test.true refl c.has_wanted_part.ensures (not_true c.if-not-has_wanted_part.true-raw),
      l.invariant.1,
    )

pub returns-then-is_done : goal.returns-then-is_done
returns-then-is_done c =
    let a = c.args in
    let l = c.loop-i in record {
      header = left_exhausted headers (box_of a.x.now 0) a.q a.uncaught (rows_in a.front.now) a.rows.now l.i (row_size * l.i - 0) l.found c.loop-i-test.true (omega arith) (c.is_done.ensures c.if-is_done.true) ∙ sym l.invariant.0;
      entry = l.invariant.1;
    }

pub loop-i-preserved : goal.loop-i-preserved
loop-i-preserved c =
    let a = c.args in
    let l = c.loop-i in
    let t = c.loop-i-test.true in (
      l.invariant.0
          ∙ left_searched headers (box_of a.x.now 0) a.q a.uncaught (rows_in a.front.now) a.rows.now l.i (row_size * l.i) l.found _ t refl c.has_wanted_part.ensures _ (not_false c.if-not-has_wanted_part.false-raw) c.with_entry-next.ensures,
      caught_next (rows_in a.rows.now) a.best l.found _ _ (Some l.i) l.by _ c.with_entry-next.ensures c.catcher_of-by.ensures
          (λ h e. part_caught_by headers (box_of a.x.now 0) a.q a.uncaught (rows_in a.front.now) a.rows.now l.i (row_size * l.i) h t refl e) l.invariant.1,
    )

pub returns-then-uncaught : goal.returns-then-uncaught
returns-then-uncaught c =
    let a = c.args in
    let l = c.loop-i in record {
      header = left_uncaught headers (box_of a.x.now 0) a.q a.uncaught (rows_in a.front.now) a.rows.now l.i l.found _ l.auto.i-end c.loop-i-test.false c.if-uncaught.true c.least_open-next.ensures ∙ sym l.invariant.0;
      entry = caught_next (rows_in a.rows.now) a.best l.found _ _ None l.by _ c.least_open-next.ensures c.catcher_of.ensures
          (left_uncaught_by headers (box_of a.x.now 0) (rows_in a.front.now) (rows_in a.rows.now)) l.invariant.1;
    }

pub returns : goal.returns
returns c =
    let a = c.args in
    let l = c.loop-i in record {
      header = left_none headers (box_of a.x.now 0) a.q a.uncaught (rows_in a.front.now) a.rows.now l.i l.found l.auto.i-end c.loop-i-test.false c.if-uncaught.false ∙ sym l.invariant.0;
      entry = l.invariant.1;
    }
