-- Document 01: "The program `listing` reads standard input, little-endian words, at most 4,096, and prints ..".
use Rattle.std.specs.Prelude.{List, ℕ, ◌-◌, ◌%◌, ltb, length, take, replicate}
use Rattle.line.specs.Choice.{pick}
use Rattle.lists.specs.Bytes.{bytes_after}
use Rattle.rules.specs.State.{reset}
use Rattle.text.specs.Last.{most_bytes}
use Rattle.text.specs.Listing.{listed_of}

-- how many bytes of an input belong to the words that are listed
abbrev pub whole_words : ℕ → ℕ
whole_words bytes = pick (ltb most_bytes bytes) most_bytes (bytes - bytes % 4)

-- the answers to these words of the run from a reset unit, as its bytes
abbrev pub answered_of : List ℕ → List ℕ
answered_of input = bytes_after reset (take (whole_words (length input)) input) (replicate most_bytes 0)

-- what is printed: the listing of the input with these answers, in a text of so many bytes
unfoldable pub printed_of : List ℕ → ℕ → List ℕ
printed_of input room = listed_of input (answered_of input) room
