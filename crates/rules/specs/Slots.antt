-- What a slot does to a unit (document 01, "Frame", "Masters", "Registers").
use Rattle.std.specs.Prelude.{ℕ, ◌+◌, ◌*◌, ◌/◌, ◌%◌, Bool, true, false, not, ◌&&◌, eqb, leb, ltb}
use Rattle.std.specs.Prelude.{Some, None}
use Rattle.std.specs.declared.option.Option.{Option}
use Rattle.line.specs.Choice.{pick, bit_of, ◌▹◌}
use Rattle.line.specs.Numbers.{code_sending, code_wanted, drive_released, drive_start}
use Rattle.line.specs.declared.slot.Slot.{Slot}
use Rattle.line.specs.declared.slot.Slot.TheVariants.{Level, Start, Idle}
use Rattle.place.specs.Frame.{begun_of, with_length}
use Rattle.place.specs.Set.{frame·byte}
use Rattle.place.specs.Slaves.{writes_of}
use Rattle.place.specs.Drive.{drive_of}
use Rattle.place.specs.Step as step
use Rattle.place.specs.declared.Event.{Event}
use Rattle.place.specs.declared.Event.TheVariants.{Nothing as Quiet, Lost, Addressed, ControlAcked}
use Rattle.place.specs.declared.Event.TheVariants.{LengthAcked, ByteAcked}
use Rattle.place.specs.declared.Event.TheVariants.{AllAcked, ShortAcked, Aborted}
use Rattle.place.specs.declared.Moved.{Moved}
use Rattle.place.specs.declared.Frame.{Frame}
use Rattle.place.specs.declared.Place.{Place}
use Rattle.place.specs.declared.Place.TheVariants.{Waiting, In}
use Rattle.rules.specs.declared.state.Acted.{Acted}
use Rattle.rules.specs.declared.state.Act.{Act}
use Rattle.rules.specs.declared.state.Core.{Core}
use Rattle.rules.specs.declared.state.Act.TheVariants.{Nothing, Take, Header, Byte}
use Rattle.rules.specs.declared.state.Seen.{Seen}
use Rattle.rules.specs.Set.{registers·losses, registers·marc, registers·slrc, registers·rdr1, registers·rdr2}
use Rattle.rules.specs.Set.{core·frame, core·regs}
use Rattle.rules.specs.Set.{core·idle, acted·core}
use Rattle.rules.specs.State.{view_of, takes_part, own_byte}
use Rattle.rules.specs.Endings.{acted, draws, request_ended, ended_of, left_of, cut_of, reception_code}

-- ---- start and idle

-- "A start slot always begins a frame"; "any start slot lets it take part", from the state that the old frame's end
-- left
unfoldable pub begun : Core → Bool → Core
begun c clear = c ▹ core·frame (begun_of (takes_part c.regs clear) c.regs.long) ▹ core·idle false

unfoldable pub on_start : Core → Bool → Acted
on_start c clear = let a = cut_of c in a ▹ acted·core (begun a.core clear)

unfoldable pub on_idle : Core → Acted
on_idle c = let a = cut_of c in a ▹ acted·core (a.core ▹ core·idle true)

-- ---- what the events of a frame bring about

-- "After the first attempt and MCR's retries all lost, the request is aborted."
unfoldable pub on_lost : Core → Acted
on_lost c =
    pick (ltb c.regs.losses c.regs.retries)
    (acted Nothing (c ▹ core·regs (c.regs ▹ registers·losses (c.regs.losses + 1))))
    (request_ended c false)

-- "Master sending starts with the P slot of its own address"
unfoldable pub on_addressed : Core → Core
on_addressed c =
    pick (c.frame.leads && writes_of c.regs.control) (c ▹ core·regs (c.regs ▹ registers·marc code_sending)) c

-- a code of the sending or reception under way: MARC for a master, SLRC for a slave
unfoldable pub with_code : Core → ℕ → Core
with_code c code =
    pick c.frame.leads (c ▹ core·regs (c.regs ▹ registers·marc code))
    (c ▹ core·regs (c.regs ▹ registers·slrc code))

-- "slave sending at control ACK"
unfoldable pub sending_begun : Core → Core
sending_begun c = pick c.frame.leads c (c ▹ core·regs (c.regs ▹ registers·slrc code_sending))

-- "The length and each byte leave TBF as their field first begins."
unfoldable pub length_drawn : Core → ℕ → Acted
length_drawn c front = acted Take (c ▹ core·frame (with_length c.frame front))

-- the length field begins: of TBF, or "length 1 and the status byte"
unfoldable pub on_control_acked : Core → Seen → Acted
on_control_acked c seen =
    pick (draws c.frame) (length_drawn (sending_begun c) seen.front)
    (pick c.frame.sends (acted Nothing (c ▹ core·frame (with_length c.frame 1))) (acted Nothing c))

-- "Wanted comes when TBF is then empty with bytes to follow": the byte is still in TBF, and is not the last
unfoldable pub wanted : Frame → Seen → Bool
wanted f seen = leb seen.waiting 1 && not (step.whole_of f)

abbrev pub with_byte : Core → ℕ → Core
with_byte c byte = c ▹ core·frame (c.frame ▹ frame·byte byte)

unfoldable pub byte_drawn : Core → Seen → Acted
byte_drawn c seen =
    let d = with_byte c seen.front in acted Take (pick (wanted c.frame seen) (with_code d code_wanted) d)

-- the other party's address
unfoldable pub other_party : Frame → ℕ
other_party f = pick f.leads f.slave f.master

-- "A reception puts three bytes into RBF when length is accepted: other party's address high 8, low 4 with control,
-- length"
unfoldable pub header_of : Frame → Act
header_of f = Header (other_party f / 16 % 256) (other_party f % 16 * 16 + f.control % 16) (f.length % 256)

-- "the RDR becomes 3 and grows by 1 per byte (RDR1 master, RDR2 slave and broadcast ..)"
unfoldable pub with_count : Core → ℕ → Core
with_count c n =
    pick c.frame.leads (c ▹ core·regs (c.regs ▹ registers·rdr1 n)) (c ▹ core·regs (c.regs ▹ registers·rdr2 n))

unfoldable pub count_of : Core → ℕ
count_of c = pick c.frame.leads c.regs.rdr1 c.regs.rdr2

unfoldable pub reception_begun : Core → Acted
reception_begun c = acted (header_of c.frame) (with_count (with_code c (reception_code c.frame)) 3)

-- the first data field begins; "a status or lock byte is fixed when its data field first begins"
unfoldable pub on_length_acked : Core → Seen → Acted
on_length_acked c seen =
    pick (draws c.frame) (byte_drawn c seen)
    (pick c.frame.sends
    (acted Nothing (with_byte c (own_byte c.regs c.frame.control seen.clear)))
    (reception_begun c))

unfoldable pub counted : Core → Core
counted c = with_count c ((count_of c + 1) % 256)

-- "if TBF is empty when that byte is ACKed, sending aborts"
unfoldable pub next_drawn : Core → Seen → Acted
next_drawn c seen = pick (eqb seen.waiting 0) (cut_of c) (byte_drawn c seen)

-- the next data field begins
unfoldable pub on_byte_acked : Core → ℕ → Seen → Acted
on_byte_acked c byte seen =
    pick (draws c.frame) (next_drawn c seen)
    (pick c.frame.sends (acted Nothing c) (acted (Byte byte) (counted c)))

-- the frame ends with a byte ACKed, the last one or not; c is the unit before it ended
unfoldable pub last_acked : Core → ℕ → Bool → Acted
last_acked c byte whole =
    pick c.frame.sends (ended_of c whole) (acted (Byte byte) (ended_of (counted c) whole).core)

-- ---- a level

-- what an event brings about: c is the unit before the slot but for the latest slot, f the frame after it
unfoldable pub on_event : Event → Core → Frame → Seen → Acted
on_event Quiet c f seen = acted Nothing (c ▹ core·frame f)
on_event Lost c f seen = on_lost (c ▹ core·frame f)
on_event Addressed c f seen = acted Nothing (on_addressed (c ▹ core·frame f))
on_event ControlAcked c f seen = on_control_acked (c ▹ core·frame f) seen
on_event LengthAcked c f seen = on_length_acked (c ▹ core·frame f) seen
on_event ByteAcked c f seen = on_byte_acked (c ▹ core·frame f) (c.frame.shift % 256) seen
on_event AllAcked c f seen = left_of (last_acked c (c.frame.shift % 256) true) f
on_event ShortAcked c f seen = left_of (last_acked c (c.frame.shift % 256) false) f
on_event Aborted c f seen = left_of (ended_of c false) f

abbrev pub on_moved : Core → Moved → Seen → Acted
on_moved c m seen = on_event m.event c m.frame seen

unfoldable pub on_level : Core → Bool → Seen → Acted
on_level c bit seen =
    on_moved (c ▹ core·idle false) (step.level_of c.frame bit (view_of c.regs seen.clear)) seen

-- ---- a slot

-- what a slot that is not refused does to a unit; where there is none, nothing
abbrev pub on_slot : Core → Option Slot → Seen → Acted
on_slot c (Some (Level bit)) seen = on_level c bit seen
on_slot c (Some Start) seen = on_start c seen.clear
on_slot c (Some Idle) seen = on_idle c
on_slot c None seen = acted Nothing c

-- ---- what the unit drives in the next slot: "0, 1 (released) or 2 (start)"

-- "With MARQ set and idle as the latest slot, the unit drives start"
abbrev pub drive_at : Place → Core → Bool → ℕ
drive_at Waiting c clear = pick (c.idle && takes_part c.regs clear) drive_start drive_released
drive_at (In field n) c clear = bit_of (drive_of c.frame (view_of c.regs clear))

unfoldable pub core_drive : Core → Bool → ℕ
core_drive c clear = drive_at c.frame.place c clear
