-- How a unit's part in a frame ends: return codes, flags, TBF and the lock (document 01, "Frame", "Slaves",
-- "Registers").
use Rattle.std.specs.Prelude.{ℕ, ◌+◌, Bool, true, false, not, ◌&&◌, ◌||◌, eqb}
use Rattle.line.specs.Choice.{pick, ◌▹◌}
use Rattle.line.specs.Numbers.{code_sending, code_receiving, code_broadcast_receiving, code_normal, code_aborted}
use Rattle.place.specs.Frame.{done_of}
use Rattle.place.specs.Slaves.{writes_of}
use Rattle.place.specs.declared.Field.TheVariants.{Broadcast, Master, Slave, Control, Length, Data}
use Rattle.place.specs.declared.Frame.{Frame}
use Rattle.place.specs.declared.Place.{Place}
use Rattle.place.specs.declared.Place.TheVariants.{Waiting, In}
use Rattle.rules.specs.declared.state.Acted.{Acted}
use Rattle.rules.specs.declared.state.Act.{Act}
use Rattle.rules.specs.declared.state.Core.{Core}
use Rattle.rules.specs.declared.state.Registers.{Registers}
use Rattle.rules.specs.declared.state.Act.TheVariants.{Nothing, Empty}
use Rattle.rules.specs.Set.{registers·holder, registers·locked, registers·marc, registers·marq, registers·slrc}
use Rattle.rules.specs.Set.{registers·slre}
use Rattle.rules.specs.Set.{registers·strq, core·frame, core·regs, acted·core}

abbrev pub acted : Act → Core → Acted
acted a c = record { core = c; act = a }

-- "Codes, in the order started, data wanted or full, normal, aborted: 0 to 3 sending, 4 to 7 receiving, 8 to 11
-- broadcast reception": the code of an end, from that of the start
unfoldable pub end_code : ℕ → Bool → ℕ
end_code started whole = pick whole (started + code_normal) (started + code_aborted)

-- "receptions at length accepted": the code with which one starts
unfoldable pub reception_code : Frame → ℕ
reception_code f = pick (not f.leads && f.broadcast) code_broadcast_receiving code_receiving

-- what a master sends, and what a slave sends with 3H or 7H ("only 3H and 7H count as slave sending"), comes from TBF
unfoldable pub draws : Frame → Bool
draws f = f.sends && (f.leads || eqb f.control 3 || eqb f.control 7)

-- ---- the lock

abbrev pub unlocked : Registers → Registers
unlocked r = r ▹ registers·locked false ▹ registers·holder 0

abbrev pub locked_to : ℕ → Registers → Registers
locked_to master r = r ▹ registers·locked true ▹ registers·holder master

-- "Once 3H, AH or BH .."; "broadcasts do neither"
unfoldable pub ties : Frame → Bool
ties f = not f.broadcast && (eqb f.control 3 || eqb f.control 10 || eqb f.control 11)

-- "6H unlocks when its byte is ACKed."
unfoldable pub frees : Frame → Bool → Bool
frees f whole = not f.broadcast && eqb f.control 6 && whole

-- ".. has its length ACKed, the frame's end before all bytes are ACKed locks to its master; all bytes ACKed
-- unlocks. 6H unlocks when its byte is ACKed."
unfoldable pub lock_after : Frame → Bool → Registers → Registers
lock_after f whole r =
    pick (ties f) (pick whole (unlocked r) (locked_to f.master r))
    (pick (frees f whole) (unlocked r) r)

-- ---- the ends

-- a master's request: "normal or aborted clears MARQ ..; the end of a sending request empties TBF"
unfoldable pub request_ended : Core → Bool → Acted
request_ended c whole =
    pick (writes_of c.regs.control)
    (acted Empty (c ▹ core·regs (c.regs ▹ registers·marq false ▹ registers·marc (end_code code_sending whole))))
    (acted Nothing (c ▹ core·regs (c.regs ▹ registers·marq false ▹ registers·marc (end_code code_receiving whole))))

-- a slave's sending with 3H or 7H: ".. STRQ .."
unfoldable pub sending_ended : Core → Bool → Acted
sending_ended c whole =
    acted Empty (c ▹ core·regs (c.regs ▹ registers·slrc (end_code code_sending whole) ▹ registers·strq false))

-- a slave's reception: ".. or SLRE"
unfoldable pub reception_ended : Core → Bool → Acted
reception_ended c whole =
    acted Nothing
    (c ▹ core·regs (c.regs ▹ registers·slrc (end_code (reception_code c.frame) whole) ▹ registers·slre false))

-- a slave's part in the data
unfoldable pub part_ended : Core → Bool → Acted
part_ended c whole =
    pick (draws c.frame) (sending_ended c whole)
    (pick c.frame.sends (acted Nothing c) (reception_ended c whole))

unfoldable pub data_ended : Core → Bool → Acted
data_ended c whole = part_ended (c ▹ core·regs (lock_after c.frame whole c.regs)) whole

-- a slave's part in the length: only a sending has begun
unfoldable pub length_ended : Core → Acted
length_ended c = pick (draws c.frame) (sending_ended c false) (acted Nothing c)

abbrev pub slave_ended : Place → Core → Bool → Acted
slave_ended Waiting c whole = acted Nothing c
slave_ended (In Broadcast n) c whole = acted Nothing c
slave_ended (In Master n) c whole = acted Nothing c
slave_ended (In Slave n) c whole = acted Nothing c
slave_ended (In Control n) c whole = acted Nothing c
slave_ended (In Length n) c whole = length_ended c
slave_ended (In Data n) c whole = data_ended c whole

-- "Ended before all bytes are ACKed, it aborts the request of a master in it that has not lost, .. and any sending or
-- reception begun." The frame is as it was before it ended
unfoldable pub ended_of : Core → Bool → Acted
ended_of c whole = pick c.frame.leads (request_ended c whole) (slave_ended c.frame.place c whole)

-- the frame has ended, or the unit has done its part
unfoldable pub left_of : Acted → Frame → Acted
left_of a f = a ▹ acted·core (a.core ▹ core·frame f)

-- "Start or idle inside a frame ends it there"
abbrev pub cut_at : Place → Core → Acted
cut_at Waiting c = acted Nothing c
cut_at (In field n) c = left_of (ended_of c false) (done_of c.frame)

unfoldable pub cut_of : Core → Acted
cut_of c = cut_at c.frame.place c
