-- The chunks are as long as a record, and each is the next one.
use Rattle.std.proofs.Common.{[], ◌∷◌, length, drop, ◌∙◌, length-append, arith}
use Rattle.std.proofs.lemmas.Grind.{common_steps}
use Rattle.wire.specs.Format.{head_size}
use Rattle.report.proofs.Buffer.{none, more}
use Rattle.report.proofs.Records.{next_record}
use Rattle.report.proofs.page.Page.put_records.Goals as goal

pub loop-record-init : goal.loop-record-init
loop-record-init c = record {
  size = rw (c.into_iter-record-iterator.ensures.into_iter_gives, c.take-record-items.ensures.source, c.chunks_exact-records.ensures.size) c.record_size.ensures;
  left = grind (arith, common_steps);
  puts = none _;
}

pub loop-record-preserved : goal.loop-record-preserved
loop-record-preserved c =
    let l = c.loop-record in
    let step = c.in-Some.ensures.steps.0 in
    let next = next_record (length l.yielded) (drop head_size c.args.file.now) _ _ _ l.invariant.left step.1.0 (step.1.1 ∙ l.invariant.size) in
    let e = length-append l.yielded (c.in-Some.record ∷ []) in
    record { size = step.0 ∙ l.invariant.size; left = rw e next.1; puts = rw (e, next.0) (more c.put_record.ensures l.invariant.puts) }
