-- Inclusive ranges, and rows of them: 01's selectors and boxes.
use Rattle.std.specs.Prelude.{ℕ, zero, suc, min, max, Bool, true, ◌&&◌, ltb, leb}
use Rattle.policy.specs.Row.{Row}

pub record Range : Type 0 where
  pub low : ℕ
  pub high : ℕ

abbrev pub range : ℕ → ℕ → Range
range l h = record { low = l; high = h }

-- x is in the range
abbrev pub within : Range → ℕ → Bool
within r x = leb r.low x && leb x r.high

-- every number is in its range
abbrev pub inside : (k : ℕ) → Row Range k → Row ℕ k → Bool
inside zero b x = true
inside (suc k) b x = within b.0 x.0 && inside k b.1 x.1

-- no range is crossed: each has its low at most its high
abbrev pub proper : (k : ℕ) → Row Range k → Bool
proper zero b = true
proper (suc k) b = leb b.0.low b.0.high && proper k b.1

-- every high is below its size
abbrev pub highs_fit : (k : ℕ) → Row ℕ k → Row Range k → Bool
highs_fit zero ns b = true
highs_fit (suc k) ns b = ltb b.0.high ns.0 && highs_fit k ns.1 b.1

-- the part of b inside s
abbrev pub common : Range → Range → Range
common b s = range (max b.low s.low) (min b.high s.high)

abbrev pub meet : (k : ℕ) → Row Range k → Row Range k → Row Range k
meet zero b s = tt
meet (suc k) b s = (common b.0 s.0, meet k b.1 s.1)
