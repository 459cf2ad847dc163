-- What a unit drives in the next slot inside a frame, as a level.
use Rattle.std.specs.Prelude.{ℕ, ◌-◌, ◌%◌, Bool, true, not, ◌||◌, eqb, ltb, leb}
use Rattle.line.specs.Choice.{pick}
use Rattle.line.specs.Parity.{level_of, parity_of}
use Rattle.place.specs.Frame.{width_of}
use Rattle.place.specs.declared.Field.{Field}
use Rattle.place.specs.declared.Field.TheVariants.{Broadcast, Master, Slave, Control, Length, Data}
use Rattle.place.specs.declared.Frame.{Frame}
use Rattle.place.specs.declared.Place.{Place}
use Rattle.place.specs.declared.Place.TheVariants.{Waiting, In}
use Rattle.place.specs.declared.View.{View}

-- a field that the unit sends: its bits, highest first, then P, and A left to the other side
unfoldable pub sent_of : ℕ → ℕ → ℕ → Bool
sent_of width value n =
    pick (ltb n width) (eqb (level_of (width - 1 - n) value) 1) (pick (eqb n width) (eqb (parity_of value) 1) true)

-- a field that it does not send: "A is 0 for ACK", and a broadcast has none
unfoldable pub replied_of : Frame → ℕ → ℕ → Bool
replied_of f width n = leb n width || not f.ack || f.broadcast

-- the header is sent by the master, each field cut to its width, the length and the data by whoever sends
unfoldable pub drive_in : Frame → Field → ℕ → View → Bool
drive_in f Broadcast n v = not f.leads || v.bit
drive_in f Master n v = pick f.leads (sent_of (width_of Master) (v.own % 4096) n) true
drive_in f Slave n v = pick f.leads (sent_of (width_of Slave) (v.slave % 4096) n) (replied_of f (width_of Slave) n)
drive_in f Control n v = pick f.leads (sent_of (width_of Control) (v.control % 16) n)
    (replied_of f (width_of Control) n)
drive_in f Length n v = pick f.sends (sent_of (width_of Length) f.byte n) (replied_of f (width_of Length) n)
drive_in f Data n v = pick f.sends (sent_of (width_of Data) f.byte n) (replied_of f (width_of Data) n)

abbrev pub drive_at : Frame → Place → View → Bool
drive_at f Waiting v = true
drive_at f (In field n) v = drive_in f field n v

unfoldable pub drive_of : Frame → View → Bool
drive_of f v = drive_at f f.place v
