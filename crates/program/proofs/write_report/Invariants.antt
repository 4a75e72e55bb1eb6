-- All but the rest of the text is written.
use Rattle.std.proofs.Common.{◌≡◌, ◌-◌, ◌≤◌, length, take, drop}
use Rattle.std.specs.Io.KnownBytes.{Appends}
use Rattle.program.proofs.write_report.Given as goal

abbrev pub invariant-loop-left : goal.invariant-loop-left
invariant-loop-left g l =
    let at = length l.text - length l.left in
    record {
      within : length l.left ≤ length l.text;
      rest : l.left ≡ drop at l.text;
      bytes : Appends (g.W.Write.contents l.initial.writer) (g.W.Write.contents l.writer) (take at l.text);
    }

abbrev pub decreases-loop-left : goal.decreases-loop-left
decreases-loop-left g l = length l.left
