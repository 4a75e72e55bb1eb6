-- Text that was put into a buffer.
use Rattle.std.specs.Prelude.{ℕ, ◌+◌, min, ◌≡◌, List, length}
use Rattle.report.specs.Text.{with_text}

-- s was put into the buffer `before` from a place on: the buffer after it, and the place behind what was put
pub record Printed (before : List ℕ) (at : ℕ) (s : List ℕ) (after : List ℕ) (next : ℕ) : Type 0 where
  pub contents : after ≡ with_text before at s
  pub end : next ≡ min (at + length s) (length before)
