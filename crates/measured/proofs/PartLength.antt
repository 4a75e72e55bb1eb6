-- The length of a part of a lent slice.
-- Assumes nothing.
use mathlib.Core.Path.{◌≡◌, ap}
use mathlib.Core.List.{List}
use Prim.Native.Nat.{ℕ}
use lib.ListN.{length}
use denote.Ref.{Bor}
use Rattle.lookup.specs.Lookup.{Part, lent, lent_part}

pub part_length : (f r : Bor (List ℕ)) (p : Part) → lent r ≡ lent_part f p → length r.now ≡ length (lent_part f p).1
part_length f r p e = ap (λ (x : (ℕ × ℕ) × List ℕ). length x.1) e
