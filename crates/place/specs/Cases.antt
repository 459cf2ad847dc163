-- The marked cases of a frame: lengths, and whole frames run slot by slot. Then frames whose every drive and event is
-- compared.
use Rattle.std.specs.Prelude.{Bool, true, false, ◌≡◌, refl, List, [], ◌∷◌, ◌++◌, ℕ, zero, suc, ◌-◌, eqb}
use Rattle.std.specs.Int.Count.{ones, ones_in}
use Rattle.line.specs.Cases.{Case, ◌gives◌, all_given}
use Rattle.line.specs.Choice.{bit_of}
use Rattle.line.specs.Parity.{levels_of, parity_of, parity_holds}
use Rattle.line.specs.Parity
use Rattle.place.specs.Frame.{begun_of, done_of, length_of, limit_of, next_of, shift_of, shifted_of, to_field}
use Rattle.place.specs.Frame.{with_length}
use Rattle.place.specs.Slaves.{accepted_of, addressed_of, by_value, control_of, open_to, stranger_of, writes_of}
use Rattle.place.specs.Drive.{replied_of, drive_in, drive_of, sent_of}
use Rattle.place.specs.Masters.{clash_of, contested_of, lost_of, own_bit}
use Rattle.place.specs.Step.{acked_of, after_ack, again_of, at_broadcast, at_control, at_data, at_field, at_length}
use Rattle.place.specs.Step.{at_master}
use Rattle.place.specs.Step.{at_slave, control_judged, counted_of, data_acked, data_judged, ends_of, go_on, header_ack}
use Rattle.place.specs.Step.{heard_of, in_field, last_of, length_judged, level_of, master_of, overruled_of}
use Rattle.place.specs.Step.{slave_judged}
use Rattle.place.specs.Step.{text_ack, whole_of, with_ack, with_control, with_slave}
use Rattle.place.specs.declared.Event.{Event}
use Rattle.place.specs.declared.Event.TheVariants.{Nothing, Lost, Addressed, ControlAcked, LengthAcked}
use Rattle.place.specs.declared.Event.TheVariants.{ByteAcked, AllAcked, ShortAcked, Aborted}
use Rattle.place.specs.declared.Frame.{Frame}
use Rattle.place.specs.declared.Place.{Place}
use Rattle.place.specs.declared.Place.TheVariants.{Waiting, In}
use Rattle.place.specs.declared.View.{View}

-- ---- what is on the line, and what is driven

-- a field on the line, with its P; with the level in its A slot too; and with a wrong P
abbrev pub field : ℕ → ℕ → List ℕ
field width value = levels_of width value ++ parity_of value ∷ []

abbrev pub answered : ℕ → ℕ → ℕ → List ℕ
answered width value a = field width value ++ a ∷ []

abbrev pub spoilt : ℕ → ℕ → List ℕ
spoilt width value = levels_of width value ++ (1 - parity_of value) ∷ []

-- so many times the same
abbrev pub times : ℕ → List ℕ → List ℕ
times zero levels = []
times (suc n) levels = levels ++ times n levels

-- slots in which the line is released; a field of another's, with what is driven in its A slot
abbrev pub released : ℕ → List ℕ
released n = times n (1 ∷ [])

abbrev pub heard : ℕ → ℕ → List ℕ
heard width a = released width ++ 1 ∷ a ∷ []

-- ---- the marked cases

-- so many attempts at one byte, every A a 0
abbrev pub attempts_of : ℕ → List ℕ
attempts_of n = times n (answered 8 0x35 0)

-- a frame of 525H to 123H with FH, a length and so many attempts
abbrev pub frame_of : ℕ → ℕ → List ℕ
frame_of length n =
    1 ∷ field 12 0x525 ++ answered 12 0x123 0 ++ answered 4 0xF 0 ++ answered 8 length 0 ++ attempts_of n

-- a unit with the address 123H that can receive
abbrev pub receiver : View
receiver =
    record {
      own = 0x123;
      bit = true;
      slave = 0;
      control = 0;
      strq = false;
      ready = true;
      locked = false;
      holder = 0;
    }

abbrev pub goes_on : Place → ℕ → ℕ
goes_on Waiting n = zero
goes_on (In field count) n = suc n

-- how many of the levels the unit takes part in until it has done its part
unfoldable pub slots_taken : Frame → List ℕ → ℕ
slots_taken f [] = 0
slots_taken f (level ∷ levels) =
    goes_on f.place (slots_taken (level_of f (eqb level 1) receiver).frame levels)

-- "length 00H is 256, FFH is 255"; "a frame of 16 attempts has 205 slots, of 32 has 365", the start slot among them
unfoldable pub frame_cases : List Case
frame_cases =
    (length_of 0x00 ∷ length_of 0xFF ∷ [] gives 256 ∷ 255 ∷ [])
    ∷ (suc (slots_taken (begun_of false false) (frame_of 0 20)) ∷ [] gives 205 ∷ [])
    ∷ (suc (slots_taken (begun_of false true) (frame_of 0 40)) ∷ [] gives 365 ∷ [])
    ∷ []

-- ---- frames with all that is driven and all that comes about

-- the beginning of a frame of 525H to 123H, of 111H, and of a broadcast
abbrev pub from525 : List ℕ
from525 = 1 ∷ field 12 0x525 ++ answered 12 0x123 0

abbrev pub from111 : List ℕ
from111 = 1 ∷ field 12 0x111 ++ answered 12 0x123 0

abbrev pub broadcast_of : ℕ → ℕ → List ℕ
broadcast_of master slave = 0 ∷ field 12 master ++ answered 12 slave 1

abbrev pub to_all : ℕ → List ℕ
to_all slave = broadcast_of 0x525 slave

-- a unit with the address 123H: STRQ, whether it can receive, and whether it is locked to 525H
abbrev pub slave_of : Bool → Bool → Bool → View
slave_of strq ready locked =
    record {
      own = 0x123;
      bit = true;
      slave = 0;
      control = 0;
      strq = strq;
      ready = ready;
      locked = locked;
      holder = 0x525;
    }

-- a master that asks 456H: its address, the broadcast bit and the control
abbrev pub master_of456 : ℕ → Bool → ℕ → View
master_of456 own bit control =
    record {
      own = own;
      bit = bit;
      slave = 0x456;
      control = control;
      strq = false;
      ready = true;
      locked = false;
      holder = 0;
    }

-- a slave's frame and a master's, in mode 0
abbrev pub as_slave : Frame
as_slave = begun_of false false

abbrev pub as_master : Frame
as_master = begun_of true false

-- what is driven in the slot of each level
unfoldable pub driven_in : View → Frame → List ℕ → List ℕ
driven_in v f [] = []
driven_in v f (level ∷ levels) = bit_of (drive_of f v) ∷ driven_in v (level_of f (eqb level 1) v).frame levels

-- the frame after some levels
unfoldable pub frame_after : View → Frame → List ℕ → Frame
frame_after v f [] = f
frame_after v f (level ∷ levels) = frame_after v (level_of f (eqb level 1) v).frame levels

-- what comes about: 1 a loss, 2 the master's address is there, 3 control ACKed, 4 length ACKed, 5 a byte ACKed, 6 the
-- last one, 7 one that is not the last in the last attempt, 8 aborted
abbrev pub noted : Event → List ℕ → List ℕ
noted Nothing rest = rest
noted Lost rest = 1 ∷ rest
noted Addressed rest = 2 ∷ rest
noted ControlAcked rest = 3 ∷ rest
noted LengthAcked rest = 4 ∷ rest
noted ByteAcked rest = 5 ∷ rest
noted AllAcked rest = 6 ∷ rest
noted ShortAcked rest = 7 ∷ rest
noted Aborted rest = 8 ∷ rest

unfoldable pub events_in : View → Frame → List ℕ → List ℕ
events_in v f [] = []
events_in v f (level ∷ levels) =
    noted (level_of f (eqb level 1) v).event (events_in v (level_of f (eqb level 1) v).frame levels)

-- "Control, decided over all sixteen values": what is driven in the A slot of each, the highest value first; and
-- whether the unit stays in the frame
unfoldable pub acked_in : View → Frame → ℕ → List ℕ
acked_in v f zero = []
acked_in v f (suc n) = bit_of (drive_of (frame_after v f (field 4 n)) v) ∷ acked_in v f n

unfoldable pub stayed_in : View → Frame → ℕ → List ℕ
stayed_in v f zero = []
stayed_in v f (suc n) = goes_on (frame_after v f (field 4 n)).place 0 ∷ stayed_in v f n

unfoldable pub slave_cases : List Case
slave_cases =
    -- "A is 0 for ACK"; "bad parity is NAK at .. data", and the byte comes again
    (driven_in receiver as_slave
    (from525 ++ answered 4 0xF 0 ++ answered 8 1 0 ++ spoilt 8 0x35 ++ 1 ∷ answered 8 0x35 0 ++ 1 ∷ [])
    gives released 14 ++ heard 12 0 ++ heard 4 0 ++ heard 8 0 ++ heard 8 1 ++ heard 8 0 ++ 1 ∷ [])
    ∷ (events_in receiver as_slave
    (from525 ++ answered 4 0xF 0 ++ answered 8 2 0 ++ spoilt 8 0x35 ++ 1 ∷ attempts_of 2) gives 2 ∷ 3 ∷ 4 ∷ 5 ∷ 6 ∷ [])
    -- "An ACK is what the unit itself drives", whatever is read: an ACK is an ACK, and a NAK that reads 0 is a NAK
    ∷ (events_in receiver as_slave (1 ∷ field 12 0x525 ++ answered 12 0x123 1 ++ answered 4 0xF 1) gives 2 ∷ 3 ∷ [])
    ∷ (events_in receiver as_slave
    (from525 ++ answered 4 0xF 0 ++ answered 8 2 0 ++ spoilt 8 0x35 ++ 0 ∷ attempts_of 1) gives 2 ∷ 3 ∷ 4 ∷ 5 ∷ [])
    -- "Bad parity is NAK at control, length", and stops the frame there
    ∷ (events_in receiver as_slave (from525 ++ spoilt 4 0xF) gives 2 ∷ 8 ∷ [])
    ∷ (events_in receiver as_slave (from525 ++ answered 4 0xF 0 ++ spoilt 8 1) gives 2 ∷ 3 ∷ [])
    ∷ (events_in receiver as_slave (from525 ++ answered 4 0xF 0 ++ spoilt 8 1 ++ 1 ∷ []) gives 2 ∷ 3 ∷ 8 ∷ [])
    -- "a repeated byte is an attempt"
    ∷ (suc (slots_taken as_slave
    (from525 ++ answered 4 0xF 0 ++ answered 8 1 0 ++ times 20 (spoilt 8 0x35 ++ 1 ∷ []))) ∷ []
    gives 205 ∷ [])
    -- the end is normal where "all bytes are ACKed" in the last attempt, and only there
    ∷ (events_in receiver as_slave (frame_of 16 16) gives 2 ∷ 3 ∷ 4 ∷ times 15 (5 ∷ []) ++ 6 ∷ [])
    ∷ (events_in receiver as_slave (frame_of 17 17) gives 2 ∷ 3 ∷ 4 ∷ times 15 (5 ∷ []) ++ 7 ∷ [])
    -- "ACK after the slave address if it is the unit's own and both parities hold"
    ∷ (events_in receiver as_slave (1 ∷ spoilt 12 0x525 ++ field 12 0x123) gives 2 ∷ 8 ∷ [])
    ∷ (events_in receiver as_slave (1 ∷ field 12 0x525 ++ spoilt 12 0x123) gives 2 ∷ 8 ∷ [])
    ∷ (events_in receiver as_slave (1 ∷ field 12 0x525 ++ field 12 0xFFF) gives 2 ∷ 8 ∷ [])
    -- "3H, 7H: only with STRQ set"; "AH, BH, EH, FH: only with SLRE set and RBF empty"; "Unlocked, 4H is NAK"
    ∷ (acked_in (slave_of true false false) (frame_after receiver as_slave from525) 16
    gives 1 ∷ 1 ∷ 1 ∷ 1 ∷ 1 ∷ 1 ∷ 1 ∷ 1 ∷ 0 ∷ 0 ∷ 0 ∷ 1 ∷ 0 ∷ 1 ∷ 1 ∷ 0 ∷ [])
    ∷ (acked_in (slave_of false true false) (frame_after receiver as_slave from525) 16
    gives 0 ∷ 0 ∷ 1 ∷ 1 ∷ 0 ∷ 0 ∷ 1 ∷ 1 ∷ 1 ∷ 0 ∷ 0 ∷ 1 ∷ 1 ∷ 1 ∷ 1 ∷ 0 ∷ [])
    -- the holder; and "Locked, another master gets NAK for all but 0H, 4H, 5H"
    ∷ (acked_in (slave_of true true true) (frame_after receiver as_slave from525) 16
    gives 0 ∷ 0 ∷ 1 ∷ 1 ∷ 0 ∷ 0 ∷ 1 ∷ 1 ∷ 0 ∷ 0 ∷ 0 ∷ 0 ∷ 0 ∷ 1 ∷ 1 ∷ 0 ∷ [])
    ∷ (acked_in (slave_of true true true) (frame_after receiver as_slave from111) 16
    gives 1 ∷ 1 ∷ 1 ∷ 1 ∷ 1 ∷ 1 ∷ 1 ∷ 1 ∷ 1 ∷ 1 ∷ 0 ∷ 0 ∷ 1 ∷ 1 ∷ 1 ∷ 0 ∷ [])
    -- "Group broadcast: same top four address bits; FFFH is general"; nobody drives an ACK
    ∷ (events_in receiver as_slave (to_all 0xFFF ++ answered 4 0xF 1 ++ answered 8 1 1 ++ answered 8 0x35 1)
    gives 2 ∷ 3 ∷ 4 ∷ 6 ∷ [])
    ∷ (driven_in receiver as_slave (to_all 0xFFF ++ answered 4 0xF 1 ++ answered 8 1 1 ++ answered 8 0x35 1)
    gives released 54)
    ∷ (events_in receiver as_slave (to_all 0x1FF) gives 2 ∷ [])
    ∷ (events_in receiver as_slave (to_all 0x100) gives 2 ∷ [])
    ∷ (events_in receiver as_slave (to_all 0xF23) gives 2 ∷ 8 ∷ [])
    -- "A broadcast is taken only with AH, BH, EH, FH"
    ∷ (stayed_in (slave_of true true false) (frame_after receiver as_slave (to_all 0xFFF)) 16
    gives 1 ∷ 1 ∷ 0 ∷ 0 ∷ 1 ∷ 1 ∷ times 10 (0 ∷ []))
    -- "A locked unit passes over broadcasts of others than the holder"
    ∷ (stayed_in (slave_of true true true) (frame_after receiver as_slave (to_all 0xFFF)) 16
    gives 1 ∷ 1 ∷ 0 ∷ 0 ∷ 1 ∷ 1 ∷ times 10 (0 ∷ []))
    ∷ (stayed_in (slave_of true true true) (frame_after receiver as_slave (broadcast_of 0x111 0xFFF)) 16
    gives times 16 (0 ∷ []))
    -- "bad parity in any field ends it", with P, that of the slave address where an address has it
    ∷ (events_in receiver as_slave (0 ∷ spoilt 12 0x525 ++ field 12 0xFFF) gives 2 ∷ 8 ∷ [])
    ∷ (events_in receiver as_slave (0 ∷ field 12 0x525 ++ spoilt 12 0xFFF) gives 2 ∷ 8 ∷ [])
    ∷ (events_in receiver as_slave (to_all 0xFFF ++ spoilt 4 0xF) gives 2 ∷ 8 ∷ [])
    ∷ (events_in receiver as_slave (to_all 0xFFF ++ answered 4 0xF 1 ++ spoilt 8 1) gives 2 ∷ 3 ∷ 8 ∷ [])
    ∷ (events_in receiver as_slave (to_all 0xFFF ++ answered 4 0xF 1 ++ answered 8 1 1 ++ spoilt 8 0x35)
    gives 2 ∷ 3 ∷ 4 ∷ 8 ∷ [])
    -- "a sending slave does not compare": it sends 01H, and every level is 0
    ∷ (events_in receiver (with_length (frame_after receiver as_slave (from525 ++ answered 4 0x0 0)) 1)
    (answered 8 0 0 ++ answered 8 0 0) gives 4 ∷ 6 ∷ [])
    ∷ (driven_in receiver (with_length (frame_after receiver as_slave (from525 ++ answered 4 0x0 0)) 1)
    (answered 8 0 0 ++ answered 8 0 0 ++ 1 ∷ []) gives answered 8 1 1 ++ answered 8 1 1 ++ 1 ∷ [])
    ∷ []

-- a master about to send a byte, as its length and as its bytes
abbrev pub writing : ℕ → Frame
writing byte =
    with_length (frame_after (master_of456 0x123 true 0xF) as_master
    (1 ∷ field 12 0x123 ++ answered 12 0x456 0 ++ answered 4 0xF 0)) byte

-- one about to read with 3H
abbrev pub reading : Frame
reading =
    frame_after (master_of456 0x123 true 0x3) as_master
    (1 ∷ field 12 0x123 ++ answered 12 0x456 0 ++ answered 4 0x3 0)

unfoldable pub master_cases : List Case
master_cases =
    -- "Highest bit first": broadcast bit, own address, slave address and control, each with its P, and A released
    (driven_in (master_of456 0x123 true 0xB) as_master (1 ∷ field 12 0x123 ++ answered 12 0x456 0 ++ answered 4 0xB 0)
    gives 1 ∷ field 12 0x123 ++ answered 12 0x456 1 ++ answered 4 0xB 1)
    -- length and data; "NAK after data repeats the byte"
    ∷ (driven_in (master_of456 0x123 true 0xF) (writing 0x35)
    (answered 8 0x35 0 ++ answered 8 0x35 1 ++ answered 8 0x35 0)
    gives answered 8 0x35 1 ++ answered 8 0x35 1 ++ answered 8 0x35 1)
    ∷ (events_in (master_of456 0x123 true 0xF) (writing 0x35)
    (answered 8 0x35 0 ++ answered 8 0x35 1 ++ answered 8 0x35 0)
    gives 4 ∷ 5 ∷ [])
    -- the last attempt of a master too: 16 of 17 are made, and the request is aborted
    ∷ (events_in (master_of456 0x123 true 0xF) (writing 0x35) (answered 8 0x35 0 ++ times 17 (answered 8 0x35 1))
    gives 4 ∷ 8 ∷ [])
    -- "NAK after slave address, control or length aborts, except in a broadcast, where A is ignored"
    ∷ (events_in (master_of456 0x123 true 0xF) as_master
    (1 ∷ field 12 0x123 ++ answered 12 0x456 0 ++ answered 4 0xF 1) gives 2 ∷ 8 ∷ [])
    ∷ (events_in (master_of456 0x123 true 0xF) (writing 0x35) (answered 8 0x35 1) gives 8 ∷ [])
    ∷ (events_in (master_of456 0x123 true 0xF) as_master (1 ∷ field 12 0x123 ++ answered 12 0x456 1) gives 2 ∷ 8 ∷ [])
    ∷ (events_in (master_of456 0x123 false 0xF) as_master (0 ∷ field 12 0x123 ++ answered 12 0x456 1 ++ answered 4 0xF 1)
    gives 2 ∷ 3 ∷ [])
    -- "the unit goes on as a receiver of that frame": 023H wins, and its frame is for 123H
    ∷ (driven_in (master_of456 0x123 true 0xF) as_master
    (1 ∷ field 12 0x023 ++ answered 12 0x123 0 ++ answered 4 0xF 0 ++ answered 8 1 0 ++ answered 8 0x35 0)
    gives 1 ∷ 0 ∷ 0 ∷ 0 ∷ 1 ∷ released 9 ++ heard 12 0 ++ heard 4 0 ++ heard 8 0 ++ heard 8 0)
    ∷ (events_in (master_of456 0x123 true 0xF) as_master
    (1 ∷ field 12 0x023 ++ answered 12 0x123 0 ++ answered 4 0xF 0 ++ answered 8 1 0 ++ answered 8 0x35 0)
    gives 1 ∷ 2 ∷ 3 ∷ 4 ∷ 6 ∷ [])
    ∷ (events_in (master_of456 0x123 true 0xF) as_master
    (to_all 0xFFF ++ answered 4 0xF 1 ++ answered 8 1 1 ++ answered 8 0x35 1) gives 1 ∷ 2 ∷ 3 ∷ 4 ∷ 6 ∷ [])
    -- "The same reading later in the master's own bits aborts": in P, in the slave address, control, length and data,
    -- and in P of each
    ∷ (events_in (master_of456 0x525 true 0xF) as_master (1 ∷ spoilt 12 0x525) gives 8 ∷ [])
    ∷ (events_in (master_of456 0x123 true 0xF) as_master (1 ∷ field 12 0x123 ++ 0 ∷ 0 ∷ []) gives 2 ∷ 8 ∷ [])
    ∷ (events_in (master_of456 0x123 true 0xF) as_master (1 ∷ field 12 0x123 ++ spoilt 12 0x456) gives 2 ∷ 8 ∷ [])
    ∷ (events_in (master_of456 0x123 true 0xF) as_master (1 ∷ field 12 0x123 ++ answered 12 0x456 0 ++ 0 ∷ [])
    gives 2 ∷ 8 ∷ [])
    ∷ (events_in (master_of456 0x123 true 0xF) (writing 0x35) (answered 8 0x35 0 ++ 0 ∷ 0 ∷ 0 ∷ []) gives 4 ∷ 8 ∷ [])
    ∷ (events_in (master_of456 0x123 true 0xB) as_master (1 ∷ field 12 0x123 ++ answered 12 0x456 0 ++ spoilt 4 0xB)
    gives 2 ∷ 8 ∷ [])
    ∷ (events_in (master_of456 0x123 true 0xF) (writing 0x35) (0 ∷ 0 ∷ 0 ∷ []) gives 8 ∷ [])
    ∷ (events_in (master_of456 0x123 true 0xF) (writing 0x07) (spoilt 8 0x07) gives 8 ∷ [])
    ∷ (events_in (master_of456 0x123 true 0xF) (writing 0x07) (answered 8 0x07 0 ++ spoilt 8 0x07) gives 4 ∷ 8 ∷ [])
    -- a master that reads gives the ACK after length and data, and NAK where parity is bad
    ∷ (events_in (master_of456 0x123 true 0x3) reading (spoilt 8 1 ++ 1 ∷ []) gives 8 ∷ [])
    ∷ (driven_in (master_of456 0x123 true 0x3) reading (answered 8 1 0 ++ spoilt 8 0x35 ++ 1 ∷ answered 8 0x35 0)
    gives heard 8 0 ++ heard 8 1 ++ heard 8 0)
    ∷ (driven_in (master_of456 0x123 true 0x3) as_master
    (1 ∷ field 12 0x123 ++ answered 12 0x456 0 ++ answered 4 0x3 0 ++ answered 8 1 0 ++ answered 8 0x35 0)
    gives 1 ∷ field 12 0x123 ++ answered 12 0x456 1 ++ answered 4 0x3 1 ++ heard 8 0 ++ heard 8 0)
    ∷ []

pub frame-cases : all_given (frame_cases ++ slave_cases ++ master_cases) ≡ true
unfolding all_given frame_cases slave_cases master_cases driven_in frame_after events_in acked_in stayed_in
    parity_of ones ones_in levels_of Parity.level_of parity_holds length_of slots_taken begun_of limit_of done_of next_of
    shift_of shifted_of to_field with_length
    accepted_of addressed_of by_value control_of open_to stranger_of writes_of replied_of drive_in drive_of sent_of clash_of
    contested_of
    lost_of own_bit acked_of after_ack again_of at_broadcast at_control at_data at_field at_length at_master at_slave
    control_judged
    counted_of data_acked data_judged ends_of go_on header_ack heard_of in_field last_of length_judged level_of master_of
    overruled_of
    slave_judged text_ack whole_of with_ack with_control with_slave
frame-cases = refl
