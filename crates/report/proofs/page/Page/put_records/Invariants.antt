-- The lines of the records passed are put.
use Rattle.std.proofs.Common.{◌≡◌, ◌*◌, length, drop}
use Rattle.wire.specs.Format.{merged_version, head_size, record_size}
use Rattle.report.specs.steps.Puts.{Puts}
use Rattle.report.specs.Report.{record_lines}
use Rattle.report.proofs.page.Page.put_records.Given as goal

abbrev pub invariant-loop-record : goal.invariant-loop-record
invariant-loop-record l = record {
  size : l.record-iterator.iter.size ≡ record_size merged_version;
  left : l.record-iterator.iter.rest.now ≡ drop (record_size merged_version * length l.yielded) (drop head_size l.file);
  puts : Puts l.initial.self l.self (record_lines (length l.yielded) (drop head_size l.file));
}
