-- What private functions cite: a frame's line by the words of its record.
use Rattle.std.specs.Prelude.{Bool, List, [], ◌∷◌, ◌++◌, ℕ, suc, ◌+◌, ◌/◌, ◌%◌, Ok, Err, eqb, ltb, take, drop, get_or}
use Rattle.line.specs.Choice.{pick}
use Rattle.line.specs.Numbers.{slot_start}
use Rattle.logs.specs.Log.{LogRead}
use Rattle.logs.specs.Relied.{fields_at}
use Rattle.text.specs.Hex.{digit_of}
use Rattle.text.specs.Last.{last_text}
use Rattle.pieces.specs.Pieces.{bytes_of}
use Rattle.iebus_dump.specs.Line.{Frame, bit_column, control_name, line_of, padded}
use Rattle.iebus_dump.specs.Dump.{header, last_of, refused}

abbrev pub digit_shown : Bool → ℕ → ℕ
digit_shown given n = pick given (digit_of n) 0x2D

-- to one or to all, and the digit of the control
unfoldable pub kind_by : ℕ → ℕ → ℕ → List ℕ
kind_by given bit control = bit_column given bit ++ 0x20 ∷ digit_shown (ltb 3 given) control ∷ 0x20 ∷ []

-- what a control asks for, if it is given
abbrev pub name_shown : ℕ → ℕ → List ℕ
name_shown given control = pick (ltb 3 given) (control_name control) (padded 13 (bytes_of "-"))

-- how many fields the record gives that begins with this word
abbrev pub given_by : ℕ → ℕ
given_by first = fields_at (first % 0x10)

-- how many of its words stand ahead of its bytes
abbrev pub ahead_by : ℕ → ℕ
ahead_by first = pick (ltb (given_by first) 2) 1 2

abbrev pub acked_by : ℕ → ℕ
acked_by first = first / 0x8_0000 % 0x40

-- the frame of the record at the front of these words
abbrev pub frame_by : ℕ → ℕ → List ℕ → Frame
frame_by first second bytes = record {
  given = given_by first;
  bit = first / 0x20 % 2;
  master = second % 0x1000;
  slave = second / 0x1000;
  control = first / 0x40 % 0x10;
  length = first / 0x400 % 0x200;
  bytes = bytes;
  ending = first % 0x10;
  again = eqb (first / 0x10 % 2) 1;
}

unfoldable pub frame_in : List ℕ → Frame
frame_in words =
    frame_by (get_or words 0 0) (get_or words 1 0)
    (take (acked_by (get_or words 0 0)) (drop (ahead_by (get_or words 0 0)) words))

-- what is written for the word at a place: a line where it is a start
unfoldable pub slot_line : ℕ → ℕ → List ℕ → List ℕ
slot_line place slot words = pick (eqb slot slot_start) (line_of place (frame_in words)) []

-- how many words are then done with
unfoldable pub used_by : ℕ → List ℕ → ℕ
used_by slot words =
    pick (eqb slot slot_start) (ahead_by (get_or words 0 0) + acked_by (get_or words 0 0)) 0

-- the lines of slots, the first of which has this place, by the words of their records
unfoldable pub lines_in : ℕ → List ℕ → List ℕ → List ℕ
lines_in place [] words = []
lines_in place (w ∷ ws) words = slot_line place w words ++ lines_in (suc place) ws (drop (used_by w words) words)

-- the last line, where a log was read so
unfoldable pub last_by : LogRead → ℕ → List ℕ
last_by (Ok frames) bytes = last_text (last_of bytes)
last_by (Err e) bytes = refused

-- how many of so many words then have their lines printed
abbrev pub shown_by : LogRead → ℕ → ℕ
shown_by (Ok frames) count = count
shown_by (Err e) count = 0

unfoldable pub text_by : List ℕ → List ℕ → List ℕ → List ℕ
text_by last slots words = header ++ lines_in 0 slots words ++ last
