-- Entries whose numbers fit the bytes of their fields. Every entry in memory does, and one that does is read again from its record.
use Rattle.std.specs.Prelude.{ℕ, ◌<◌, ◌≡◌, true, List, [], ◌∷◌, Result, Ok, Err}
use Rattle.policy.specs.declared.entry.Entry.{Entry}
use Rattle.policy.specs.declared.refusal.Refusal.{Refusal}
use Rattle.policy.specs.Box.{highs_fit}
use Rattle.policy.specs.steps.Boxes.{lows, fits}
use Rattle.policy.specs.Row.{Row}
use Rattle.policy.specs.Header.{arity, sizes_of}
use Rattle.policy.specs.Entry.{selector}

-- how many values the bytes of each field have: the direction has a byte, though a header's is one bit
abbrev pub byte_sizes : Row ℕ arity
byte_sizes = sizes_of arity (32, (32, (16, (16, (8, (8, tt))))))

pub record Fits (e : Entry) : Type 0 where
  pub low_ends : fits arity byte_sizes (lows arity (selector e)) ≡ true
  pub high_ends : highs_fit arity byte_sizes (selector e) ≡ true
  pub set : e.actions < 65536

abbrev pub AllFit : List Entry → Type 0
AllFit [] = Unit {0}
AllFit (e ∷ p) = Fits e × AllFit p

-- those of a list that passed a check do
abbrev pub GoodFit : Result ℕ Refusal → List Entry → Type 0
GoodFit (Ok n) p = AllFit p
GoodFit (Err r) p = Unit {0}
