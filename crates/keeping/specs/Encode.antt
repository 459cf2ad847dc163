-- A state as bytes.
use Rattle.std.specs.Prelude.{List, [], ◌∷◌, ◌++◌, ℕ, ◌/◌, ◌%◌, ◌-◌, ◌≤◌, ◌<◌, length, replicate}
use Rattle.line.specs.Choice.{bit_of}
use Rattle.line.specs.Numbers.{rbf_bytes, tbf_bytes}
use Rattle.place.specs.declared.Field.{Field}
use Rattle.place.specs.declared.Field.TheVariants.{Broadcast, Master, Slave, Control, Length, Data}
use Rattle.place.specs.declared.Frame.{Frame}
use Rattle.place.specs.declared.Place.{Place}
use Rattle.place.specs.declared.Place.TheVariants.{Waiting, In}
use Rattle.rules.specs.State.{State}
use Rattle.rules.specs.declared.state.Registers.{Registers}

-- the two bytes of a number
abbrev pub low : ℕ → ℕ
low n = n % 256

abbrev pub high : ℕ → ℕ
high n = n / 256

unfoldable pub register_bytes : Registers → List ℕ
register_bytes r =
    low r.own ∷ high r.own ∷ bit_of r.enabled ∷ bit_of r.long ∷ low r.slave ∷ high r.slave
    ∷ bit_of r.bit ∷ r.retries ∷ r.control ∷ bit_of r.marq ∷ bit_of r.strq ∷ bit_of r.slre ∷ r.losses
    ∷ r.lor1 ∷ r.lor2 ∷ r.rdr1 ∷ r.rdr2 ∷ r.marc ∷ r.slrc ∷ bit_of r.locked ∷ low r.holder
    ∷ high r.holder ∷ []

-- a field's number, and the place as two: 0 for waiting
abbrev pub field_number : Field → ℕ
field_number Broadcast = 1
field_number Master = 2
field_number Slave = 3
field_number Control = 4
field_number Length = 5
field_number Data = 6

unfoldable pub place_number : Place → ℕ
place_number Waiting = 0
place_number (In field n) = field_number field

unfoldable pub place_count : Place → ℕ
place_count Waiting = 0
place_count (In field n) = n

unfoldable pub frame_bytes : Frame → List ℕ
frame_bytes f =
    place_number f.place ∷ place_count f.place ∷ low f.shift ∷ high f.shift
    ∷ bit_of f.broadcast ∷ low f.master ∷ high f.master ∷ bit_of f.sound ∷ low f.slave ∷ high f.slave
    ∷ f.control ∷ low f.length ∷ high f.length ∷ f.attempts ∷ low f.acked ∷ high f.acked
    ∷ bit_of f.ack ∷ bit_of f.leads ∷ bit_of f.sends ∷ f.byte ∷ f.limit ∷ []

-- a buffer: how many bytes it has, the bytes, and zeros for those that it has room for
unfoldable pub buffer_bytes : ℕ → List ℕ → List ℕ
buffer_bytes room bytes = length bytes ∷ bytes ++ replicate (room - length bytes) 0

unfoldable pub encode : State → List ℕ
encode s =
    register_bytes s.core.regs ++ frame_bytes s.core.frame ++ (bit_of s.core.idle ∷ [])
    ++ buffer_bytes tbf_bytes s.tbf ++ buffer_bytes rbf_bytes s.rbf

-- ---- which states have bytes of their own: those whose numbers are of the size that the code's types give them

pub record RegistersFit (r : Registers) : Type 0 where
  pub own : r.own < 0x1_0000
  pub slave : r.slave < 0x1_0000
  pub holder : r.holder < 0x1_0000

pub record FrameFits (f : Frame) : Type 0 where
  pub shift : f.shift < 0x1_0000
  pub master : f.master < 0x1_0000
  pub slave : f.slave < 0x1_0000
  pub length : f.length < 0x1_0000
  pub acked : f.acked < 0x1_0000

pub record Fits (s : State) : Type 0 where
  pub regs : RegistersFit s.core.regs
  pub frame : FrameFits s.core.frame
  pub tbf : length s.tbf ≤ tbf_bytes
  pub rbf : length s.rbf ≤ rbf_bytes
