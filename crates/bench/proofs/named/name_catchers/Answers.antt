-- A party more is named.
-- Assumes nothing.
use borrow.Author.Rules.{rules}
use mathlib.Core.Path.{refl}
use Rattle.bench.proofs.Naming.{names_more, names_all}
use Rattle.bench.proofs.named.name_catchers.Goals as goal

pub loop-i-init : goal.loop-i-init
loop-i-init c = record { slots_long = search rules; names_long = c.none_named-named.ensures.0; first = refl }

pub loop-i-preserved : goal.loop-i-preserved
loop-i-preserved c = search names_more

pub returns : goal.returns
returns c = search names_all
