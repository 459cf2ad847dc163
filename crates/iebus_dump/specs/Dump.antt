-- What is printed for an input: a header, a line for each frame, a last line.
use Rattle.std.specs.Prelude.{Bool, Option, List, [], ◌∷◌, ◌++◌, ℕ, suc, ◌+◌, ◌*◌, eqb, length, take}
use Rattle.line.specs.Choice.{pick}
use Rattle.line.specs.Numbers.{slot_start}
use Rattle.logs.specs.Frames.{stray_in}
use Rattle.logs.specs.Records.{Record, records_of}
use Rattle.text.specs.Last.{last_text}
use Rattle.words.specs.declared.LeftOver.{LeftOver}
use Rattle.words.specs.Left.{left_over_of}
use Rattle.words.specs.Words.{words_read}
use Rattle.pieces.specs.Pieces.{bytes_of}
use Rattle.iebus_dump.specs.Line.{frame_of, line_of}

-- at most so many words are read
abbrev pub most_words : ℕ
most_words = 16384

-- the slot words of an input
unfoldable pub slots_of : List ℕ → List ℕ
slots_of input = words_read input most_words

-- the places of the start words, where the first word has this place
unfoldable pub starts_from : ℕ → List ℕ → List ℕ
starts_from place [] = []
starts_from place (w ∷ ws) =
    pick (eqb w slot_start) (place ∷ starts_from (suc place) ws) (starts_from (suc place) ws)

-- a line for each start and its record, in order
unfoldable pub lines_of : List ℕ → List Record → List ℕ
lines_of [] rs = []
lines_of (p ∷ ps) [] = []
lines_of (p ∷ ps) (r ∷ rs) = line_of p (frame_of r) ++ lines_of ps rs

-- `more` if any byte follows the last word that is read, else `short` for 1 to 3 bytes left over
abbrev pub last_of : ℕ → Option LeftOver
last_of bytes = left_over_of (most_words * 4) bytes

abbrev pub header : List ℕ
header = bytes_of "start  from   to  bit control      length bytes\n"

-- where a word is no slot word
abbrev pub refused : List ℕ
refused = bytes_of "refused 16\n"

-- all that is printed
unfoldable pub whole_of : Bool → List ℕ → List ℕ
whole_of long input =
    pick (stray_in (slots_of input)) (header ++ refused)
    (header ++ lines_of (starts_from 0 (slots_of input)) (records_of long (slots_of input))
    ++ last_text (last_of (length input)))

-- room for all of it, whatever the input: the header, 80 bytes for each word and the longer last line
abbrev pub dump_bytes : ℕ
dump_bytes = length header + most_words * 80 + 6

-- what a text of so many bytes is given of it
unfoldable pub dump_of : Bool → List ℕ → ℕ → List ℕ
dump_of long input room = take room (whole_of long input)
