-- Document 01: "prints a header, then word and answer in eight capital hexadecimal digits".
use Rattle.std.specs.Prelude.{List, [], ◌∷◌, ◌++◌, ℕ, zero, suc, ◌+◌, ◌/◌, ◌%◌, ◌^◌, ltb}
use Rattle.line.specs.Choice.{pick}

-- the digit of the lowest four bits: '0' to '9' are 30H to 39H, 'A' to 'F' are 41H to 46H
abbrev pub digit_of : ℕ → ℕ
digit_of n = pick (ltb (n % 16) 10) (0x30 + n % 16) (0x37 + n % 16)

-- the lowest digits of a number, so many, the highest first
unfoldable pub hex_of : ℕ → ℕ → List ℕ
hex_of zero n = []
hex_of (suc k) n = digit_of (n / 16 ^ k) ∷ hex_of k n

-- a word, a space, its answer, the end of the line
unfoldable pub line_of : ℕ → ℕ → List ℕ
line_of word answer = hex_of 8 word ++ 0x20 ∷ hex_of 8 answer ++ 0x0A ∷ []
