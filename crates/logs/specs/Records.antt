-- Ticket 1: "in order, one record for each", and a record as words of 32 bits, from the lowest bits on:
--   first word: ending 4, again 1, broadcast bit 1, control 4, length 9, number of ACKed bytes 6, attempts after them 6
--   second, only where the master address is given: master 12, slave 12
--   one for each ACKed byte: byte 8, attempts 6
use Rattle.std.specs.Prelude.{Bool, false, List, [], ◌∷◌, ◌++◌, map, ℕ, ◌+◌, ◌*◌, Option, None, Some, ltb, length}
use Rattle.line.specs.Choice.{bit_of, pick}
use Rattle.logs.specs.Frames.{frames_of}
use Rattle.logs.specs.Data.{Acked}
use Rattle.logs.specs.Readings.{Reading, bit_in, control_in, equal_frames, length_of, master_in, read_of, slave_in}

pub record Record : Type 0 where
  pub again : Bool
  pub reading : Reading

-- the mark of a frame behind the one before, if there is one, by what it is for two frames to be equal
abbrev pub again_by : (Reading → Reading → Bool) → Option Reading → Reading → Bool
again_by equal None r = false
again_by equal (Some b) r = equal b r

-- each frame with its mark
unfoldable pub marked_by : (Reading → Reading → Bool) → Option Reading → List Reading → List Record
marked_by equal before [] = []
marked_by equal before (r ∷ rs) =
    record { again = again_by equal before r; reading = r } ∷ marked_by equal (Some r) rs

-- the records of a list of slots
unfoldable pub records_by : (Reading → Reading → Bool) → Bool → List ℕ → List Record
records_by equal long slots = marked_by equal None (map (read_of long) (frames_of slots))

-- the same, by what equal frames are now
abbrev pub again_after : Option Reading → Reading → Bool
again_after = again_by equal_frames

abbrev pub marked_after : Option Reading → List Reading → List Record
marked_after = marked_by equal_frames

abbrev pub records_of : Bool → List ℕ → List Record
records_of = records_by equal_frames

unfoldable pub first_word : Record → ℕ
first_word r =
    r.reading.text.ending + bit_of r.again * 0x10 + bit_in r.reading * 0x20 + control_in r.reading * 0x40
    + length_of r.reading * 0x400 + length r.reading.text.acked * 0x8_0000
    + r.reading.text.unacked * 0x200_0000

abbrev pub second_word : Reading → ℕ
second_word r = master_in r + slave_in r * 0x1000

abbrev pub byte_word : Acked → ℕ
byte_word a = a.byte + a.attempts * 0x100

-- the words behind the first
unfoldable pub words_behind : Reading → List ℕ
words_behind r = pick (ltb (length r.given) 2) [] (second_word r ∷ []) ++ map byte_word r.text.acked

unfoldable pub record_words : Record → List ℕ
record_words r = first_word r ∷ words_behind r.reading

-- the words of records, one behind the other
unfoldable pub words_of : List Record → List ℕ
words_of [] = []
words_of (r ∷ rs) = record_words r ++ words_of rs
