-- Action sets: 16 bits, bit k for action k (01: bit 0 is discard, bit 1 bypass, bits 2 to 15 protect).
use Rattle.std.specs.Prelude.{ℕ, ◌/◌, ◌%◌, ◌^◌, Bool, eqb}
use Rattle.std.specs.Int.Bits.{bit_and}

abbrev pub discard : ℕ
discard = 1

abbrev pub bypass : ℕ
bypass = 2

-- action k is in the set
abbrev pub has : ℕ → ℕ → Bool
has k a = eqb (a / 2 ^ k % 2) 1

-- the actions in both sets
abbrev pub shared : ℕ → ℕ → ℕ
shared a b = bit_and a b

-- every action of a is in b
abbrev pub subset : ℕ → ℕ → Bool
subset a b = eqb (shared a b) a
