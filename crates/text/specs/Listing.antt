-- Document 01: "The program `listing` reads standard input, little-endian words, at most 4,096, and prints a header,
-- then word and answer ..; a last line ..".
use Rattle.std.specs.Prelude.{List, [], ◌∷◌, ◌++◌, ℕ, zero, suc, ◌+◌, ◌*◌, ◌/◌, ltb, length}
use Rattle.line.specs.Choice.{pick}
use Rattle.words.specs.Words.{word_at}
use Rattle.text.specs.Hex.{line_of}
use Rattle.text.specs.Last.{most_bytes, last_of, last_text}

-- how many words of an input of so many bytes are listed
abbrev pub words_listed : ℕ → ℕ
words_listed bytes = pick (ltb most_bytes bytes) (most_bytes / 4) (bytes / 4)

-- the header "word answer", with the line's end
abbrev pub header : List ℕ
header =
    0x77 ∷ 0x6F ∷ 0x72 ∷ 0x64 ∷ 0x20 ∷ 0x61 ∷ 0x6E ∷ 0x73 ∷ 0x77 ∷ 0x65 ∷ 0x72 ∷ 0x0A ∷ []

-- the header and the lines of the first words
unfoldable pub lines_of : List ℕ → List ℕ → ℕ → List ℕ
lines_of input answers zero = header
lines_of input answers (suc n) = lines_of input answers n ++ line_of (word_at input n) (word_at answers n)

-- the whole listing
unfoldable pub listing_of : List ℕ → List ℕ → List ℕ
listing_of input answers =
    lines_of input answers (words_listed (length input)) ++ last_text (last_of (length input))

-- room for every listing: the header, 4,096 lines and the longer last line
abbrev pub listing_bytes : ℕ
listing_bytes = 12 + 4096 * 18 + 6

-- what a text of so many bytes is given: the whole listing, or nothing where the longest one would not fit
unfoldable pub listed_of : List ℕ → List ℕ → ℕ → List ℕ
listed_of input answers room = pick (ltb room listing_bytes) [] (listing_of input answers)
