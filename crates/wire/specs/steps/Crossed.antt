-- Check 4 by itself, and of the bytes of a record.
use Rattle.std.specs.Prelude.{ℕ, ◌+◌, Bool, ◌&&◌, List, [], ◌∷◌, leb}
use Rattle.policy.specs.declared.entry.Entry.{Entry}
use Rattle.policy.specs.declared.refusal.Refusal.TheVariants.{Crossed}
use Rattle.policy.specs.Refusals.{Answer, accepted, first_of}
use Rattle.wire.specs.Format.{number2, number4}
use Rattle.wire.specs.Checks.{first_from, refuse_entry}

-- neither address range of the record at a place has its low above its high; and neither port range
abbrev pub addresses_proper : List ℕ → ℕ → Bool
addresses_proper s at = leb (number4 s at) (number4 s (at + 4)) && leb (number4 s (at + 8)) (number4 s (at + 12))

abbrev pub ports_proper : List ℕ → ℕ → Bool
ports_proper s at = leb (number2 s (at + 16)) (number2 s (at + 18)) && leb (number2 s (at + 20)) (number2 s (at + 22))

-- of a list of n entries, where those with a property count as crossed
abbrev pub crossed_of : (Entry → Bool) → List Entry → ℕ → Answer
crossed_of P p n = first_of (refuse_entry Crossed (first_from P 0 p) ∷ []) (accepted (n ∷ []))
