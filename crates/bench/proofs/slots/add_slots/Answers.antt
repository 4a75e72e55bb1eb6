-- A slot without a list leaves the stage, and so does one behind a crowded stage; any other is added.
-- Assumes nothing.
use borrow.Author.Rules.{rules}
use mathlib.Core.Path.{refl}
use Rattle.reconcile.specs.steps.Stage.{stage_in}
use Rattle.reconcile.proofs.Staging.{added_crowded, few_added}
use Rattle.bench.proofs.Slotting.{staged_vacant, staged_next, staged_all}
use Rattle.bench.proofs.slots.add_slots.Goals as goal

pub loop-slot-init : goal.loop-slot-init
loop-slot-init c = (refl, tt)

pub loop-slot-preserved-then-is_vacant : goal.loop-slot-preserved-then-is_vacant
loop-slot-preserved-then-is_vacant c =
    let l = c.loop-slot in
    staged_vacant _ l.slot-index (stage_in l.stage) (search rules) l.invariant c.loop-slot-test.true c.is_vacant.ensures.0 c.if-is_vacant.true

pub loop-slot-preserved-then-is_crowded : goal.loop-slot-preserved-then-is_crowded
loop-slot-preserved-then-is_crowded c =
    let l = c.loop-slot in
    staged_next _ l.slot-index (stage_in l.stage) (search rules) l.invariant c.loop-slot-test.true c.is_vacant.ensures.0 c.if-is_vacant.false c.is_vacant.ensures.1 (stage_in l.stage)
    (added_crowded l.stage _ _ c.is_crowded.ensures c.if-is_crowded.true)

pub add_slot-requires : goal.add_slot-requires
add_slot-requires c = few_added _ _ c.is_crowded.ensures c.if-is_crowded.false

pub loop-slot-preserved : goal.loop-slot-preserved
loop-slot-preserved c =
    let l = c.loop-slot in
    staged_next _ l.slot-index (stage_in l.stage) (search rules) l.invariant c.loop-slot-test.true c.is_vacant.ensures.0 c.if-is_vacant.false c.is_vacant.ensures.1 _ c.add_slot.ensures

pub returns : goal.returns
returns c =
    let l = c.loop-slot in
    staged_all _ l.slot-index (stage_in l.stage) (search rules) l.invariant c.loop-slot-test.false
