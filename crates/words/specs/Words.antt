-- Words as the programs read and write them: four bytes each, the lowest first.
use Rattle.std.specs.Prelude.{List, ℕ, ◌+◌, ◌*◌, ◌/◌, ◌%◌, ◌^◌, min, get_or, length}
use Rattle.line.specs.Places.{placed}

-- the word at a place of a list of bytes; a byte past the list's end counts as 0
abbrev pub word_at : List ℕ → ℕ → ℕ
word_at bytes place =
    get_or bytes (place * 4) 0 + get_or bytes (place * 4 + 1) 0 * 0x100 + get_or bytes (place * 4 + 2) 0 * 0x1_0000
    + get_or bytes (place * 4 + 3) 0 * 0x100_0000

-- the first words of an input
abbrev pub words_of : List ℕ → ℕ → List ℕ
words_of input n = placed (word_at input) n

-- all of them, at most so many
abbrev pub words_read : List ℕ → ℕ → List ℕ
words_read input most = words_of input (min (length input / 4) most)

-- the byte at a place of a list of words, and the first so many of them
abbrev pub byte_at : List ℕ → ℕ → ℕ
byte_at words place = get_or words (place / 4) 0 / 2 ^ (8 * (place % 4)) % 256

abbrev pub bytes_of : List ℕ → ℕ → List ℕ
bytes_of words n = placed (byte_at words) n
