-- Document 01, "Masters": the comparison of what a master drives with what it reads.
use Rattle.std.specs.Prelude.{ℕ, Bool, true, false, not, ◌&&◌, ltb, leb}
use Rattle.line.specs.Choice.{◌▹◌}
use Rattle.place.specs.Set.{frame·leads}
use Rattle.place.specs.Frame.{width_of}
use Rattle.place.specs.Drive.{drive_of}
use Rattle.place.specs.declared.Field.{Field}
use Rattle.place.specs.declared.Field.TheVariants.{Broadcast, Master, Slave, Control, Length, Data}
use Rattle.place.specs.declared.Frame.{Frame}
use Rattle.place.specs.declared.View.{View}

-- "Driving 1 and reading 0 in the broadcast bit or the address is a loss"
unfoldable pub contested_of : Field → ℕ → Bool
contested_of Broadcast n = true
contested_of Master n = ltb n (width_of Master)
contested_of Slave n = false
contested_of Control n = false
contested_of Length n = false
contested_of Data n = false

-- "the master's own bits": P is one of them, A is not, nor is what another sends
unfoldable pub own_bit : Frame → Field → ℕ → Bool
own_bit f Broadcast n = true
own_bit f Master n = true
own_bit f Slave n = leb n (width_of Slave)
own_bit f Control n = leb n (width_of Control)
own_bit f Length n = f.sends && leb n (width_of Length)
own_bit f Data n = f.sends && leb n (width_of Data)

-- a master drives 1 in a bit of its own and reads 0; "a sending slave does not compare"
unfoldable pub clash_of : Frame → Field → ℕ → Bool → View → Bool
clash_of f field n bit v = f.leads && own_bit f field n && drive_of f v && not bit

-- "the unit goes on as a receiver of that frame"
unfoldable pub lost_of : Frame → Frame
lost_of f = f ▹ frame·leads false
