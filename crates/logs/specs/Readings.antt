-- Ticket 1: what is read of one frame, and "A frame is marked "again" exactly if the same fields are given in it as in
-- the frame before, and they and the ACKed bytes are equal." Ticket 11: "Two frames are now equal exactly if they were
-- and the numbers of complete attempts up to each ACKed byte, from the one before, and after the last (or in all, where
-- there is none) are equal as well."
use Rattle.std.specs.Prelude.{Bool, ◌&&◌, List, [], map, ℕ, eqb, ltb, drop, get_or, length}
use Rattle.line.specs.Cases.{same}
use Rattle.line.specs.Choice.{pick}
use Rattle.line.specs.Numbers.{end_broken_data}
use Rattle.logs.specs.Fields.{data_place, end_in, given_in, header}
use Rattle.logs.specs.Data.{Acked, Text, attempts_of, text_from, text_of}

-- a frame: the values of the fields that are given, in order, and its data
pub record Reading : Type 0 where
  pub given : List ℕ
  pub text : Text

-- a field of it, "else it is 0"
abbrev pub bit_in : Reading → ℕ
bit_in r = get_or r.given 0 0

abbrev pub master_in : Reading → ℕ
master_in r = get_or r.given 1 0

abbrev pub slave_in : Reading → ℕ
slave_in r = get_or r.given 2 0

abbrev pub control_in : Reading → ℕ
control_in r = get_or r.given 3 0

abbrev pub length_of : Reading → ℕ
length_of r = get_or r.given 4 0

-- its ACKed bytes
abbrev pub bytes_in : Reading → List ℕ
bytes_in r = map (λ (a : Acked). a.byte) r.text.acked

-- the attempts that each of them took
abbrev pub took_in : Reading → List ℕ
took_in r = map (λ (a : Acked). a.attempts) r.text.acked

-- the data of a frame with these fields: a frame that ended in its header, or just before its data, has none
unfoldable pub data_of : Bool → List ℕ → List ℕ → Text
data_of long given levels =
    pick (eqb (end_in header levels) end_broken_data && ltb data_place (length levels))
    (text_from (attempts_of long (eqb (get_or given 0 0) 0) (get_or given 4 0)) (eqb (get_or given 0 0) 0) (get_or given 4 0) 0
    (drop data_place levels))
    (text_of [] 0 (end_in header levels))

-- what a frame of these levels says
unfoldable pub read_of : Bool → List ℕ → Reading
read_of long levels =
    record { given = given_in header levels; text = data_of long (given_in header levels) levels }

-- whether two frames were equal by ticket 1
unfoldable pub equal_said : Reading → Reading → Bool
equal_said r s = same r.given s.given && same (bytes_in r) (bytes_in s)

-- and whether they are by ticket 11
unfoldable pub equal_frames : Reading → Reading → Bool
equal_frames r s = equal_said r s && same (took_in r) (took_in s) && eqb r.text.unacked s.text.unacked
