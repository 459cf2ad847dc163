-- Bytes as a state. Every list is some state: a place past the last field counts as waiting, a count past a buffer's
-- room as full, and of a flag's byte the lowest bit is the flag.
use Rattle.std.specs.Prelude.{Bool, List, ℕ, ◌+◌, ◌*◌, ◌%◌, min, eqb, drop, get_or, take}
use Rattle.line.specs.Choice.{pick}
use Rattle.line.specs.Numbers.{rbf_bytes, tbf_bytes}
use Rattle.place.specs.declared.Field.TheVariants.{Broadcast, Master, Slave, Control, Length, Data}
use Rattle.place.specs.declared.Frame.{Frame}
use Rattle.place.specs.declared.Place.{Place}
use Rattle.place.specs.declared.Place.TheVariants.{Waiting, In}
use Rattle.rules.specs.State.{State}
use Rattle.rules.specs.declared.state.Registers.{Registers}
use Rattle.keeping.specs.Layout.{frame_end, idle_place, part, registers_end, state_bytes, tbf_end}

-- what stands at a place: a byte, a number of two bytes, a flag
abbrev pub byte_in : List ℕ → ℕ → ℕ
byte_in l at = get_or l at 0

abbrev pub joined : ℕ → ℕ → ℕ
joined low high = low + high * 256

abbrev pub flag_of : ℕ → Bool
flag_of byte = eqb (byte % 2) 1

abbrev pub pair_in : List ℕ → ℕ → ℕ
pair_in l at = joined (byte_in l at) (byte_in l (at + 1))

abbrev pub flag_in : List ℕ → ℕ → Bool
flag_in l at = flag_of (byte_in l at)

unfoldable pub registers_in : List ℕ → Registers
registers_in l =
    record {
      own = pair_in l 0;
      enabled = flag_in l 2;
      long = flag_in l 3;
      slave = pair_in l 4;
      bit = flag_in l 6;
      retries = byte_in l 7;
      control = byte_in l 8;
      marq = flag_in l 9;
      strq = flag_in l 10;
      slre = flag_in l 11;
      losses = byte_in l 12;
      lor1 = byte_in l 13;
      lor2 = byte_in l 14;
      rdr1 = byte_in l 15;
      rdr2 = byte_in l 16;
      marc = byte_in l 17;
      slrc = byte_in l 18;
      locked = flag_in l 19;
      holder = pair_in l 20;
    }

unfoldable pub place_of : ℕ → ℕ → Place
place_of number n =
    pick (eqb number 1) (In Broadcast n)
    (pick (eqb number 2) (In Master n)
    (pick (eqb number 3) (In Slave n)
    (pick (eqb number 4) (In Control n)
    (pick (eqb number 5) (In Length n)
    (pick (eqb number 6) (In Data n) Waiting)))))

unfoldable pub frame_in : List ℕ → Frame
frame_in l =
    record {
      place = place_of (byte_in l 0) (byte_in l 1);
      shift = pair_in l 2;
      broadcast = flag_in l 4;
      master = pair_in l 5;
      sound = flag_in l 7;
      slave = pair_in l 8;
      control = byte_in l 10;
      length = pair_in l 11;
      attempts = byte_in l 13;
      acked = pair_in l 14;
      ack = flag_in l 16;
      leads = flag_in l 17;
      sends = flag_in l 18;
      byte = byte_in l 19;
      limit = byte_in l 20;
    }

unfoldable pub buffer_in : ℕ → List ℕ → List ℕ
buffer_in room l = take (min room (byte_in l 0)) (drop 1 l)

unfoldable pub decode : List ℕ → State
decode l =
    record {
      core = record {
        regs = registers_in (part 0 registers_end l);
        frame = frame_in (part registers_end frame_end l);
        idle = flag_in l idle_place;
      };
      tbf = buffer_in tbf_bytes (part frame_end tbf_end l);
      rbf = buffer_in rbf_bytes (part tbf_end state_bytes l);
    }
