-- One party more.
use Rattle.std.proofs.Common.{◌≡◌, ◌<◌, length, sym, arith, rules}
use Rattle.report.proofs.Buffer.{more, same}
use Rattle.report.proofs.EntriesText.{named_more}
use Rattle.report.proofs.page.Page.put_named.Goals as goal

pub loop-i-preserved : goal.loop-i-preserved
loop-i-preserved c =
    let k : length c.args.named ≡ 8 = search rules in
    let h : c.loop-i.i < length c.args.named = omega arith in
    same (more c.put_entry_of.ensures c.loop-i.invariant) (sym (named_more c.args.named _ c.loop-i.i h))
