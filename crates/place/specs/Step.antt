-- One level of a frame: the bit is taken in, a judgement is made at P, and A decides how the frame goes on. "A
-- judgement is made with the P slot's word, from the state then, and later host words do not change it." "What an ACK
-- brings, stored bytes included, comes with the A slot's word. A field begins with the word of the slot before it."
use Rattle.std.specs.Prelude.{ℕ, ◌+◌, ◌%◌, Bool, true, not, ◌&&◌, ◌||◌, eqb, ltb, leb}
use Rattle.std.specs.Bool.{beq}
use Rattle.line.specs.Choice.{pick, ◌▹◌}
use Rattle.line.specs.Parity.{parity_holds}
use Rattle.place.specs.Set.{frame·broadcast, frame·master, frame·sound, frame·slave, frame·ack, frame·control}
use Rattle.place.specs.Set.{frame·sends}
use Rattle.place.specs.Set.{frame·attempts, frame·acked}
use Rattle.place.specs.Frame.{width_of, to_field, done_of, next_of, shifted_of, with_length}
use Rattle.place.specs.Slaves.{addressed_of, writes_of, stranger_of, control_of, accepted_of}
use Rattle.place.specs.Masters.{contested_of, clash_of, lost_of}
use Rattle.place.specs.declared.Field.{Field}
use Rattle.place.specs.declared.Field.TheVariants.{Broadcast, Master, Slave, Control, Length, Data}
use Rattle.place.specs.declared.Frame.{Frame}
use Rattle.place.specs.declared.Event.{Event}
use Rattle.place.specs.declared.Event.TheVariants.{Nothing, Lost, Addressed, ControlAcked, LengthAcked}
use Rattle.place.specs.declared.Event.TheVariants.{ByteAcked, AllAcked, ShortAcked, Aborted}
use Rattle.place.specs.declared.Moved.{Moved}
use Rattle.place.specs.declared.Place.{Place}
use Rattle.place.specs.declared.Place.TheVariants.{Waiting, In}
use Rattle.place.specs.declared.View.{View}

abbrev pub moved : Event → Frame → Moved
moved e f = record { frame = f; event = e }

-- a bit of a field, which brings nothing about
abbrev pub one_bit : Frame → Field → ℕ → Bool → Moved
one_bit f field n bit = moved Nothing (shifted_of f field n bit)

-- ---- P and A

-- "An ACK is what the unit itself drives, or, awaited from another, the settled level"; "except in a broadcast,
-- where A is ignored"
unfoldable pub heard_of : Frame → Bool → Bool
heard_of f bit = f.broadcast || not bit

-- the slave gives the ACK after slave address and control
unfoldable pub header_ack : Frame → Bool → Bool
header_ack f bit = f.leads && heard_of f bit || not f.leads && f.ack

-- whoever does not send them gives the ACK after length and data
unfoldable pub text_ack : Frame → Bool → Bool
text_ack f bit = f.sends && heard_of f bit || not f.sends && f.ack

-- after P: the A slot, or nothing more for this unit
unfoldable pub go_on : Frame → Field → ℕ → Bool → Moved
go_on f field n goes = pick goes (moved Nothing (next_of f field n)) (moved Aborted (done_of f))

-- after A: the field that follows, or "a NAK that stops it"
unfoldable pub after_ack : Frame → Bool → Field → Event → Moved
after_ack f acked field e = pick acked (moved e (to_field f field)) (moved Aborted (done_of f))

-- ---- broadcast bit and master address

-- "broadcast bit (0 broadcast)"
unfoldable pub at_broadcast : Frame → Bool → Moved
at_broadcast f bit = moved Nothing (to_field (f ▹ frame·broadcast (not bit)) Master)

unfoldable pub master_of : Frame → Bool → Frame
master_of f held = to_field (f ▹ frame·master f.shift ▹ frame·sound held) Slave

unfoldable pub at_master : Frame → ℕ → Bool → Moved
at_master f n bit =
    pick (ltb n (width_of Master)) (one_bit f Master n bit) (moved Addressed (master_of f (parity_holds f.shift bit)))

-- ---- slave address

unfoldable pub with_slave : Frame → Bool → Frame
with_slave f ack = f ▹ frame·slave f.shift ▹ frame·ack ack

-- the judgement of the address: a slave goes on only where it is addressed
unfoldable pub slave_judged : Frame → ℕ → Bool → ℕ → Moved
slave_judged f n bit own =
    let mine = addressed_of f f.shift own (parity_holds f.shift bit) in
    go_on (with_slave f mine) Slave n (f.leads || mine)

unfoldable pub at_slave : Frame → ℕ → Bool → ℕ → Moved
at_slave f n bit own =
    pick (ltb n (width_of Slave)) (one_bit f Slave n bit)
    (pick (eqb n (width_of Slave)) (slave_judged f n bit own) (after_ack f (header_ack f bit) Control Nothing))

-- ---- control

unfoldable pub with_control : Frame → ℕ → Bool → Bool → Frame
with_control f control ack sends = f ▹ frame·control control ▹ frame·ack ack ▹ frame·sends sends

-- the judgement of the control: "bad parity is NAK"; a master sends with a write control, a slave with a read control
unfoldable pub control_judged : Frame → ℕ → Bool → View → Moved
control_judged f n bit v =
    let control = f.shift % 16 in
    let judged = control_of control (stranger_of v f.master) v.strq v.ready v.locked in
    let ack = parity_holds f.shift bit && accepted_of judged f.broadcast in
    go_on (with_control f control ack (beq f.leads (writes_of control))) Control n (f.leads || ack)

unfoldable pub at_control : Frame → ℕ → Bool → View → Moved
at_control f n bit v =
    pick (ltb n (width_of Control)) (one_bit f Control n bit)
    (pick (eqb n (width_of Control)) (control_judged f n bit v) (after_ack f (header_ack f bit) Length ControlAcked))

-- ---- length

unfoldable pub with_ack : Frame → Bool → Frame
with_ack f ack = f ▹ frame·ack ack

-- "bad parity is NAK at control, length and data"; in a broadcast "bad parity in any field ends it"
unfoldable pub length_judged : Frame → ℕ → Bool → Moved
length_judged f n bit =
    pick f.sends (go_on f Length n true)
    (go_on (with_ack (with_length f (f.shift % 256)) (parity_holds f.shift bit)) Length n
    (parity_holds f.shift bit || not f.broadcast))

unfoldable pub at_length : Frame → ℕ → Bool → Moved
at_length f n bit =
    pick (ltb n (width_of Length)) (one_bit f Length n bit)
    (pick (eqb n (width_of Length)) (length_judged f n bit) (after_ack f (text_ack f bit) Data LengthAcked))

-- ---- data

unfoldable pub data_judged : Frame → ℕ → Bool → Moved
data_judged f n bit =
    pick f.sends (go_on f Data n true)
    (go_on (with_ack f (parity_holds f.shift bit)) Data n (parity_holds f.shift bit || not f.broadcast))

-- "a repeated byte is an attempt". The counts go round far above what a frame can have
unfoldable pub counted_of : Frame → Frame
counted_of f = f ▹ frame·attempts (f.attempts % 128 + 1)

unfoldable pub acked_of : Frame → Frame
acked_of f = f ▹ frame·acked (f.acked % 512 + 1)

-- "the last attempt": this one is the last that the frame can have
unfoldable pub last_of : Frame → Bool
last_of f = leb f.limit (f.attempts % 128 + 1)

-- with this byte all are ACKed
unfoldable pub whole_of : Frame → Bool
whole_of f = leb f.length (f.acked % 512 + 1)

-- after an ACKed byte: "it ends with the last byte's ACK .., the last attempt", or goes on with the next byte
unfoldable pub ends_of : Frame → Bool → Bool → Moved
ends_of f whole last =
    pick whole (moved AllAcked (done_of f)) (pick last (moved ShortAcked (done_of f))
    (moved ByteAcked (to_field f Data)))

-- "NAK after data repeats the byte"
unfoldable pub again_of : Frame → Bool → Moved
again_of f last = pick last (moved Aborted (done_of f)) (moved Nothing (to_field f Data))

unfoldable pub data_acked : Frame → Bool → Moved
data_acked f bit =
    pick (text_ack f bit) (ends_of (acked_of (counted_of f)) (whole_of f) (last_of f)) (again_of (counted_of f) (last_of f))

unfoldable pub at_data : Frame → ℕ → Bool → Moved
at_data f n bit =
    pick (ltb n (width_of Data)) (one_bit f Data n bit)
    (pick (eqb n (width_of Data)) (data_judged f n bit) (data_acked f bit))

-- ---- any field

unfoldable pub at_field : Frame → Field → ℕ → Bool → View → Moved
at_field f Broadcast n bit v = at_broadcast f bit
at_field f Master n bit v = at_master f n bit
at_field f Slave n bit v = at_slave f n bit v.own
at_field f Control n bit v = at_control f n bit v
at_field f Length n bit v = at_length f n bit
at_field f Data n bit v = at_data f n bit

-- a loss goes on as a receiver; "the same reading later in the master's own bits aborts"
unfoldable pub overruled_of : Frame → Field → ℕ → Bool → View → Moved
overruled_of f field n bit v =
    pick (contested_of field n) (moved Lost (at_field (lost_of f) field n bit v).frame) (moved Aborted (done_of f))

unfoldable pub in_field : Frame → Field → ℕ → Bool → View → Moved
in_field f field n bit v =
    pick (clash_of f field n bit v) (overruled_of f field n bit v) (at_field f field n bit v)

-- "While it waits, a level changes only the latest slot."
abbrev pub at_place : Frame → Place → Bool → View → Moved
at_place f Waiting bit v = moved Nothing f
at_place f (In field n) bit v = in_field f field n bit v

unfoldable pub level_of : Frame → Bool → View → Moved
level_of f bit v = at_place f f.place bit v
