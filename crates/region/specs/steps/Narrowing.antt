-- A box that is narrowed to its headers before it is searched.
use Rattle.std.specs.Prelude.{◌≡◌, ℕ, Bool, true, false}
use Rattle.policy.specs.declared.header.Header.{Header}
use Rattle.policy.specs.Row.{Row}
use Rattle.policy.specs.Box.{inside, proper}
use Rattle.policy.specs.steps.Boxes.{lows, fits}
use Rattle.policy.specs.Header.{arity, header, sizes, Box, lies, Headers, among}

-- every row of the box fits the widths of a header
abbrev pub Fitting : Box → Type 0
Fitting b = (x : Row ℕ arity) → inside arity b x ≡ true → fits arity sizes x ≡ true

-- p lies in b
abbrev pub Part : Box → Box → Type 0
Part p b = (x : Row ℕ arity) → inside arity p x ≡ true → inside arity b x ≡ true

-- y is a proper part of x with the same headers
pub record Narrows (hs : Headers) (x y : Box) : Type 0 where
  pub part : Part y x
  pub is_proper : proper arity y ≡ true
  pub same : (h : Header) → among hs h ≡ true → lies x h ≡ true → lies y h ≡ true

-- such a part whose low corner is a header; or there is none in it
pub record NarrowsTo (hs : Headers) (x y : Box) (some : Bool) : Type 0 where
  pub box : Narrows hs x y
  pub corner : some ≡ true → among hs (header (lows arity y)) ≡ true
  pub none : some ≡ false → (h : Header) → among hs h ≡ true → lies y h ≡ false
