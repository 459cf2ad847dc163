-- Document 01, "Frame": the place of a unit in a frame, and what it keeps of the frame under way.
use Rattle.std.specs.Prelude.{ℕ, ◌+◌, ◌*◌, ◌%◌, Bool, false, eqb}
use Rattle.line.specs.Choice.{pick, bit_of, ◌▹◌}
use Rattle.line.specs.Numbers.{attempts_of, length_of_zero}
use Rattle.place.specs.Set.{frame·place, frame·shift, frame·leads, frame·limit, frame·byte, frame·length}
use Rattle.place.specs.declared.Field.{Field}
use Rattle.place.specs.declared.Field.TheVariants.{Broadcast, Master, Slave, Control, Length, Data}
use Rattle.place.specs.declared.Frame.{Frame}
use Rattle.place.specs.declared.Place.TheVariants.{Waiting, In}

-- "12 master address, P, 12 slave address, P, A, 4 control, P, A, 8 length, P, A, then 8 data, P, A": the bits of a
-- field
abbrev pub width_of : Field → ℕ
width_of Broadcast = 1
width_of Master = 12
width_of Slave = 12
width_of Control = 4
width_of Length = 8
width_of Data = 8

-- "At most 16 attempts (mode 0) or 32 (mode 1) per frame"
unfoldable pub limit_of : Bool → ℕ
limit_of long = attempts_of long

-- "Length 00H means 256."
unfoldable pub length_of : ℕ → ℕ
length_of byte = pick (eqb byte 0) length_of_zero byte

-- "Highest bit first": a bit goes in behind those before it; twelve are kept
unfoldable pub shift_of : ℕ → Bool → ℕ
shift_of bits bit = bits % 2048 * 2 + bit_of bit

-- waiting for a start, with no frame yet
abbrev pub no_frame : Frame
no_frame =
    record {
      place = Waiting;
      shift = 0;
      broadcast = false;
      master = 0;
      sound = false;
      slave = 0;
      control = 0;
      length = 0;
      attempts = 0;
      acked = 0;
      ack = false;
      leads = false;
      sends = false;
      byte = 0;
      limit = 0;
    }

-- "A start slot always begins a frame." "The mode counts as it was at the frame's start slot."
unfoldable pub begun_of : Bool → Bool → Frame
begun_of leads long = no_frame ▹ frame·place (In Broadcast 0) ▹ frame·leads leads ▹ frame·limit (limit_of long)

-- a field begins
unfoldable pub to_field : Frame → Field → Frame
to_field f field = f ▹ frame·place (In field 0) ▹ frame·shift 0

-- "Once a unit has done its part it drives 1 and takes no notice of levels until start or idle": it waits for a start
unfoldable pub done_of : Frame → Frame
done_of f = f ▹ frame·place Waiting

-- the next slot of the same field
unfoldable pub next_of : Frame → Field → ℕ → Frame
next_of f field n = f ▹ frame·place (In field (n % 16 + 1))

-- a bit of a field is taken in
unfoldable pub shifted_of : Frame → Field → ℕ → Bool → Frame
shifted_of f field n bit = next_of (f ▹ frame·shift (shift_of f.shift bit)) field n

-- the length that is sent, or was read
unfoldable pub with_length : Frame → ℕ → Frame
with_length f byte = f ▹ frame·byte byte ▹ frame·length (length_of byte)
