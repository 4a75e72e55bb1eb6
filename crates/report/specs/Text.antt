-- Text as bytes, and the buffer that it is put into.
use Rattle.std.specs.Prelude.{ℕ, zero, suc, ◌+◌, ◌-◌, ◌/◌, ◌%◌, cond, List, [], ◌∷◌, ◌++◌, ltb, length, take, drop}
use Prim.Native.Char.{code}
use Prim.Native.String.{String, [] as empty, ◌∷◌ as ◌then◌}

-- the bytes of a text in ASCII
abbrev pub ascii : String → List ℕ
ascii empty = []
ascii (c then s) = code c ∷ ascii s

-- the byte of a digit below 16: `0` to `9`, then `a` to `f`
abbrev pub digit : ℕ → ℕ
digit d = cond (ltb d 10) (48 + d) (87 + d)

-- a number in at most so many decimal digits: those of its tenth, unless that is 0, then its last digit
abbrev pub decimal_in : (digits : ℕ) → ℕ → List ℕ
decimal_in zero n = []
decimal_in (suc k) n = cond (ltb n 10) [] (decimal_in k (n / 10)) ++ digit (n % 10) ∷ []

-- a number in decimal, without leading zeros; n + 1 digits are enough
unfoldable pub decimal : ℕ → List ℕ
decimal n = decimal_in (n + 1) n

-- a byte as two hexadecimal digits, and a row of bytes
abbrev pub hex_byte : ℕ → List ℕ
hex_byte b = digit (b / 16) ∷ digit (b % 16) ∷ []

abbrev pub hex : List ℕ → List ℕ
hex [] = []
hex (b ∷ s) = hex_byte b ++ hex s

-- the buffer with the text s from a place on, as much of it as there is room for
abbrev pub with_text : List ℕ → ℕ → List ℕ → List ℕ
with_text out at s = take at out ++ take (length out - at) s ++ drop (at + length s) out
