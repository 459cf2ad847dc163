-- Document 01: "a last line `more` if any byte follows the 4,096th word, else `short` for 1 to 3 bytes left over".
use Rattle.std.specs.Prelude.{List, [], ◌∷◌, Option, Some, None, ℕ}
use Rattle.words.specs.declared.LeftOver.{LeftOver}
use Rattle.words.specs.declared.LeftOver.TheVariants.{Short, More}
use Rattle.words.specs.Left.{left_over_of}

-- "at most 4,096" words, in bytes
abbrev pub most_bytes : ℕ
most_bytes = 16384

-- the last line of an input of so many bytes, if there is one
abbrev pub last_of : ℕ → Option LeftOver
last_of bytes = left_over_of most_bytes bytes

-- its text, with the line's end: "short", "more"
unfoldable pub last_text : Option LeftOver → List ℕ
last_text None = []
last_text (Some Short) = 0x73 ∷ 0x68 ∷ 0x6F ∷ 0x72 ∷ 0x74 ∷ 0x0A ∷ []
last_text (Some More) = 0x6D ∷ 0x6F ∷ 0x72 ∷ 0x65 ∷ 0x0A ∷ []
