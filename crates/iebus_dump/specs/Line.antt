-- The line of a frame: the place of its start word, who to whom, one or all, the control, the length, the ACKed bytes,
-- and how it ended. A column of a field that is not given has dashes.
use Rattle.std.specs.Prelude.{Bool, List, [], ◌∷◌, ◌++◌, map, ℕ, zero, suc, ◌/◌, ◌%◌, ◌^◌, eqb, ltb, get_or, length, replicate, take}
use Prim.Native.String.{String}
use Rattle.line.specs.Choice.{pick}
use Rattle.logs.specs.Readings.{bit_in, bytes_in, control_in, length_of, master_in, slave_in}
use Rattle.logs.specs.Records.{Record}
use Rattle.pieces.specs.Pieces.{bytes_of}
use Rattle.text.specs.Hex.{digit_of, hex_of}

-- what is shown of a frame: how many of its five fields are given, these fields, the ACKed bytes, the number of its
-- ending, and whether it is marked "again"
pub record Frame : Type 0 where
  pub given : ℕ
  pub bit : ℕ
  pub master : ℕ
  pub slave : ℕ
  pub control : ℕ
  pub length : ℕ
  pub bytes : List ℕ
  pub ending : ℕ
  pub again : Bool

-- the frame of a record
abbrev pub frame_of : Record → Frame
frame_of r = record {
  given = length r.reading.given;
  bit = bit_in r.reading;
  master = master_in r.reading;
  slave = slave_in r.reading;
  control = control_in r.reading;
  length = length_of r.reading;
  bytes = bytes_in r.reading;
  ending = r.reading.text.ending;
  again = r.again;
}

-- the lowest decimal digits of a number, so many, the highest first
unfoldable pub decimal_of : ℕ → ℕ → List ℕ
decimal_of zero n = []
decimal_of (suc k) n = digit_of (n / 10 ^ k % 10) ∷ decimal_of k n

-- a column of a field, or as many dashes
abbrev pub shown : Bool → List ℕ → List ℕ
shown given column = map (λ (byte : ℕ). pick given byte 0x2D) column

-- a column with blanks behind it, so many bytes in all
abbrev pub padded : ℕ → List ℕ → List ℕ
padded width column = take width (column ++ replicate width 0x20)

-- the place of the start word, the master's address and the slave's, of a frame that gives so many fields
unfoldable pub route_column : ℕ → ℕ → ℕ → ℕ → List ℕ
route_column place given master slave =
    decimal_of 5 place ++ bytes_of "  " ++ shown (ltb 1 given) (hex_of 3 master) ++ bytes_of " > "
    ++ shown (ltb 2 given) (hex_of 3 slave) ++ bytes_of "  "

-- "broadcast bit": 0 is a frame to all
unfoldable pub bit_column : ℕ → ℕ → List ℕ
bit_column given bit = pick (ltb 0 given) (pick (eqb bit 0) (bytes_of "all") (bytes_of "one")) (bytes_of "---")

-- what the control fields 0H to FH ask for
abbrev pub controls : List String
controls =
    "status" ∷ "undefined" ∷ "undefined" ∷ "read+lock" ∷ "holder low" ∷ "holder high" ∷ "status+unlock" ∷ "read"
    ∷ "undefined" ∷ "undefined" ∷ "command+lock" ∷ "data+lock" ∷ "undefined" ∷ "undefined" ∷ "command" ∷ "data" ∷ []

unfoldable pub control_name : ℕ → List ℕ
control_name control = padded 13 (bytes_of (get_or controls control ""))

unfoldable pub control_column : ℕ → ℕ → List ℕ
control_column given control =
    bytes_of " " ++ shown (ltb 3 given) (hex_of 1 control) ++ bytes_of " "
    ++ pick (ltb 3 given) (control_name control) (padded 13 (bytes_of "-"))

-- the length field, in decimal
unfoldable pub length_column : ℕ → ℕ → List ℕ
length_column given length = bytes_of " " ++ shown (ltb 4 given) (decimal_of 3 length)

-- each ACKed byte, behind a blank
unfoldable pub bytes_column : List ℕ → List ℕ
bytes_column [] = []
bytes_column (b ∷ bs) = 0x20 ∷ hex_of 2 b ++ bytes_column bs

-- the endings, in the order of their numbers
abbrev pub endings : List String
endings =
    "whole" ∷ "short" ∷ "NAK at slave address" ∷ "NAK at control" ∷ "NAK at length" ∷ "broken off in broadcast bit"
    ∷ "broken off in master address" ∷ "broken off in slave address" ∷ "broken off in control"
    ∷ "broken off in length" ∷ "broken off in data" ∷ []

unfoldable pub ending_column : ℕ → List ℕ
ending_column ending = bytes_of "  " ++ bytes_of (get_or endings ending "")

-- the mark, and the end of the line
unfoldable pub mark_column : Bool → List ℕ
mark_column again = pick again (bytes_of ", again\n") (bytes_of "\n")

-- the columns of the five fields
unfoldable pub fields_of : ℕ → Frame → List ℕ
fields_of place f =
    route_column place f.given f.master f.slave ++ bit_column f.given f.bit
    ++ control_column f.given f.control ++ length_column f.given f.length

-- the line of a frame whose start word has this place
unfoldable pub line_of : ℕ → Frame → List ℕ
line_of place f =
    fields_of place f ++ bytes_column f.bytes ++ ending_column f.ending ++ mark_column f.again
