-- What is written is the report of all that the reader had.
use Rattle.std.proofs.Common.{◌≡◌, ℕ, ◌+◌, ◌-◌, length, take, ap, arith, rules}
use Rattle.std.proofs.lemmas.Result.{on_ok_weaker, on_err_weaker}
use Rattle.std.specs.Io.KnownBytes.{Appends}
use Rattle.report.specs.Report.{input_limit}
use Rattle.program.proofs.Front.{written-buffer, written-nothing, anyway}
use Rattle.program.proofs.run_in.Goals as goal

pub returns-in_err-count : goal.returns-in_err-count
returns-in_err-count g c = record { ok = search rules; err = anyway c.from_residual.result _ (written-nothing (g.R.Read.remaining c.args.reader.now) (g.W.Write.contents c.args.writer.now)) }

pub returns : goal.returns
returns g c =
    let n = c.in_ok-count.count in
    let read = c.read_full.new.buffer in
    let taken = c.in_ok-count.ensures in
    let old = g.W.Write.contents c.args.writer.now in
    let new = g.W.Write.contents c.write_report.new.writer in
    let same : n - 0 ≡ n = omega arith in
    let long : length read ≡ input_limit + 1 = omega arith in
    record {
      ok = on_ok_weaker c.write_report.result
          (written-buffer (Appends old new) _ _ n read _ long taken.within taken.bytes taken.whole (ap (λ k. take k read) same))
          c.write_report.ensures.ok;
      err = on_err_weaker c.write_report.result
          (written-buffer (λ text. (m : ℕ) × Appends old new (take m text)) _ _ n read _ long taken.within taken.bytes taken.whole (ap (λ k. take k read) same))
          c.write_report.ensures.err;
    }
