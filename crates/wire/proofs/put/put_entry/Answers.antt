-- The ranges are put, and behind them what the version has of the rest.
use mathlib.Core.Path.{◌∙◌, ap}
use mathlib.Core.List.{List, [], ◌∷◌}
use Prim.Native.Nat.{ℕ, ◌+◌}
use lib.ListN.{length, get_or}
use lib.Seq.{paste}
use Rattle.wire.specs.Format.{bytes2}
use Rattle.wire.proofs.Writing.{record_put, rest_of_one, rest_of_other}
use borrow.Author.Rules.{rules}
use Rattle.wire.proofs.put.put_entry.Goals as goal

pub returns-then-version-eq1 : goal.returns-then-version-eq1
returns-then-version-eq1 c =
    let a = c.args in
    record_put a.version a.e a.buffer.now c.paste.new.buffer _ (bytes2 a.e.actions) a.at (search rules) (rest_of_one a.version a.e c.if-version-eq1.true)
    (c.paste.ensures ∙ ap (λ (b : List ℕ). paste a.buffer.now a.at b (length b)) c.ranges_of.ensures)
    (c.paste-then-version-eq1.ensures ∙ ap (λ (b : List ℕ). paste c.paste.new.buffer (a.at + 26) b (length b)) c.to_be_bytes-set.ensures)

pub returns-else-version-eq1 : goal.returns-else-version-eq1
returns-else-version-eq1 c =
    let a = c.args in
    record_put a.version a.e a.buffer.now c.paste.new.buffer _ (a.e.direction_low ∷ a.e.direction_high ∷ bytes2 a.e.actions) a.at (search rules) (rest_of_other a.version a.e c.if-version-eq1.false)
    (c.paste.ensures ∙ ap (λ (b : List ℕ). paste a.buffer.now a.at b (length b)) c.ranges_of.ensures)
    (c.paste-else-version-eq1.ensures ∙ ap (λ (t : List ℕ). paste c.paste.new.buffer (a.at + 26) (a.e.direction_low ∷ a.e.direction_high ∷ get_or t 0 0 ∷ get_or t 1 0 ∷ []) 4) c.to_be_bytes-set.ensures)
