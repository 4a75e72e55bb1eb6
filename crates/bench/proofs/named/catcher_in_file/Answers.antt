-- Definition 3 over the entries that are read.
use native.Mathlib.Omega.{arith}
use mathlib.Core.Path.{◌≡◌, ◌∙◌, ap}
use Prim.Native.Nat.{ℕ, ◌≤◌, min}
use Rattle.policy.specs.Policy.{catcher}
use Rattle.wire.specs.Format.{filed_limit, entries_from}
use Rattle.wire.proofs.Sizes.{counted_there}
use Rattle.bench.proofs.named.catcher_in_file.Goals as goal

few : (n r : ℕ) → n ≡ min r filed_limit → n ≤ r
few n r e = omega arith

pub first_match-requires : goal.first_match-requires
first_match-requires c = counted_there c.args.file.now c.filed_count.result c.requires (few _ _ c.filed_count.ensures)

pub returns : goal.returns
returns c =
    let a = c.args in
    c.first_match.ensures ∙ ap (λ (n : ℕ). catcher (entries_from a.file.now 0 n) a.h) c.filed_count.ensures
