-- Whole lists of words, as stories tell them (`Cases.antt`, and `applied`), and what is looked at after them.
use Rattle.std.specs.Prelude.{true, false, List, [], ◌∷◌, ◌++◌, ◌≡◌, refl, ℕ, zero, suc, ◌+◌, ◌*◌, eqb, length}
use Rattle.line.specs.Cases.{Case, ◌gives◌}
use Rattle.line.specs.Choice.{bit_of, pick}
use Rattle.line.specs.Numbers.{refused_value}
use Rattle.place.specs.Cases.{field, heard, released, times}
pub use Rattle.place.specs.Cases.{answered}
use Rattle.isolation.specs.Runs.{run, answers}
use Rattle.rules.specs.declared.state.Registers.{Registers}
use Rattle.rules.specs.State.{State, reset, reset_registers}
use Rattle.rules.specs.Answers.{number_in}
use Rattle.rules.specs.Registers.{flg_byte, rcr_byte, write_refusal}
use Rattle.rules.specs.Machine.{unit}

-- ---- words

-- a register write, and a read
abbrev pub write : ℕ → ℕ → ℕ
write register value = 0x1000_0000 + register * 0x0100_0000 + value

abbrev pub read : ℕ → ℕ
read register = 0x2000_0000 + register * 0x0100_0000

-- bytes that are all ACKed
abbrev pub bytes : List ℕ → List ℕ
bytes [] = []
bytes (b ∷ bs) = answered 8 b 0 ++ bytes bs

-- a frame up to its control, from the start slot on, with the level after the control
abbrev pub header : ℕ → ℕ → ℕ → ℕ → List ℕ
header master slave control a = 2 ∷ 1 ∷ field 12 master ++ answered 12 slave 0 ++ answered 4 control a

-- a whole individual frame in which all is ACKed, and the idle slot that closes it
abbrev pub exchange : ℕ → ℕ → ℕ → ℕ → List ℕ → List ℕ
exchange master slave control length text =
    header master slave control 0 ++ answered 8 length 0 ++ bytes text ++ 3 ∷ []

-- one that breaks off after a byte of two
abbrev pub broken_off : ℕ → ℕ → ℕ → List ℕ
broken_off master slave control = header master slave control 0 ++ answered 8 2 0 ++ answered 8 0x99 0 ++ 3 ∷ []

-- a broadcast up to its length: nobody gives an ACK
abbrev pub to_all : ℕ → ℕ → ℕ → ℕ → List ℕ
to_all master slave control length =
    2 ∷ 0 ∷ field 12 master ++ answered 12 slave 1 ++ answered 4 control 1 ++ answered 8 length 1

-- a unit with the address 123H, sending enabled, after reset
abbrev pub set_up : List ℕ
set_up = write 0x2 0x32 ∷ write 0x3 0x12 ∷ []

-- ---- what some words leave

pub record Left : Type 0 where
  -- RCR and FLG as they are read
  pub rcr : ℕ
  pub flg : ℕ
  -- the lock as LOR shows it: 0 or, locked, 1000H and the holder
  pub lock : ℕ
  pub rdr1 : ℕ
  pub rdr2 : ℕ
  pub tbf : List ℕ
  pub rbf : List ℕ

-- "Reset: RCR FFH, .. all else zero or empty"; what differs from it is put in by name
abbrev pub as_reset : Left
as_reset = record { rcr = 0xFF; flg = 0; lock = 0; rdr1 = 0; rdr2 = 0; tbf = []; rbf = [] }

abbrev pub rcr : ℕ → Left → Left
rcr v l = record { rcr = v; flg = l.flg; lock = l.lock; rdr1 = l.rdr1; rdr2 = l.rdr2; tbf = l.tbf; rbf = l.rbf }

abbrev pub flg : ℕ → Left → Left
flg v l = record { rcr = l.rcr; flg = v; lock = l.lock; rdr1 = l.rdr1; rdr2 = l.rdr2; tbf = l.tbf; rbf = l.rbf }

abbrev pub lock : ℕ → Left → Left
lock v l = record { rcr = l.rcr; flg = l.flg; lock = v; rdr1 = l.rdr1; rdr2 = l.rdr2; tbf = l.tbf; rbf = l.rbf }

abbrev pub rdr1 : ℕ → Left → Left
rdr1 v l = record { rcr = l.rcr; flg = l.flg; lock = l.lock; rdr1 = v; rdr2 = l.rdr2; tbf = l.tbf; rbf = l.rbf }

abbrev pub rdr2 : ℕ → Left → Left
rdr2 v l = record { rcr = l.rcr; flg = l.flg; lock = l.lock; rdr1 = l.rdr1; rdr2 = v; tbf = l.tbf; rbf = l.rbf }

abbrev pub tbf : List ℕ → Left → Left
tbf v l = record { rcr = l.rcr; flg = l.flg; lock = l.lock; rdr1 = l.rdr1; rdr2 = l.rdr2; tbf = v; rbf = l.rbf }

abbrev pub rbf : List ℕ → Left → Left
rbf v l = record { rcr = l.rcr; flg = l.flg; lock = l.lock; rdr1 = l.rdr1; rdr2 = l.rdr2; tbf = l.tbf; rbf = v }

abbrev pub left_in : State → Left
left_in s =
    record {
      rcr = rcr_byte s.core.regs;
      flg = flg_byte s.core.regs;
      lock = bit_of s.core.regs.locked * 0x1000 + s.core.regs.holder;
      rdr1 = s.core.regs.rdr1;
      rdr2 = s.core.regs.rdr2;
      tbf = s.tbf;
      rbf = s.rbf;
    }

-- all of it as numbers; with the count of TBF no two are the same
abbrev pub numbers : Left → List ℕ
numbers l =
    l.rcr ∷ l.flg ∷ l.lock ∷ l.rdr1 ∷ l.rdr2 ∷ length l.tbf ∷ l.tbf ++ l.rbf

-- what the unit has after some words from reset on
infix 4 ◌leaves◌
abbrev pub ◌leaves◌ : List ℕ → Left → Case
◌leaves◌ words left = numbers (left_in (run unit reset words)) gives numbers left

-- ---- answers

-- the answers to some words that come after others
abbrev pub answering : List ℕ → List ℕ → List ℕ
answering before words = answers unit (run unit reset before) words

-- what a story looks at, for its fingerprint
pub looked_at : (before words : List ℕ) (left : Left)
    → ((words leaves left) ≡ (numbers (left_in (run unit reset words)) gives numbers left))
    × (answering before words ≡ answers unit (run unit reset before) words)
looked_at before words left = (refl, refl)

-- slots taken, each with what is driven after it: 0, 1 (released) or 2 (start)
abbrev pub taken : List ℕ → List ℕ
taken [] = []
taken (d ∷ ds) = (0x8000_0000 + d * 0x100) ∷ taken ds

-- values read, with the line released, and words refused
abbrev pub values : List ℕ → List ℕ
values [] = []
values (v ∷ vs) = (0xA000_0100 + v) ∷ values vs

abbrev pub refusals : List ℕ → List ℕ
refusals [] = []
refusals (n ∷ ns) = (0xF000_0000 + n) ∷ refusals ns

-- writes, each taken with the line released (0) or refused by a number
abbrev pub wrote : List ℕ → List ℕ
wrote [] = []
wrote (zero ∷ ns) = 0x9000_0100 ∷ wrote ns
wrote (suc n ∷ ns) = (0xF000_0001 + n) ∷ wrote ns

-- what the slave 123H drives after the start slot: an ACK of its address, the rest, and nothing more
abbrev pub as_slave : List ℕ → List ℕ
as_slave rest = released 14 ++ heard 12 0 ++ rest ++ released 2

-- "length 1 and the status byte", or another byte of its own
abbrev pub tells : ℕ → List ℕ
tells byte = as_slave (heard 4 0 ++ answered 8 1 1 ++ answered 8 byte 1)

-- ---- the stories

-- a reception of FH with two bytes
abbrev pub reception : List ℕ
reception = set_up ++ write 0x0 0x10 ∷ 3 ∷ exchange 0x525 0x123 0xF 2 (0xA5 ∷ 0x5A ∷ [])

-- the slave address 456H, and MCR
abbrev pub to456 : ℕ → List ℕ
to456 mcr = write 0x4 0x60 ∷ write 0x5 0x45 ∷ write 0x6 mcr ∷ []

-- a master write of two bytes to 456H
abbrev pub asks_for456 : ℕ → List ℕ
asks_for456 mcr = to456 mcr ++ write 0xE 2 ∷ write 0xE 0xAA ∷ write 0xE 0xBB ∷ write 0x1 0x08 ∷ []

abbrev pub asks_to_write : ℕ → List ℕ
asks_to_write mcr = set_up ++ asks_for456 mcr

-- a master read of one byte from 456H, with 3H, SAR1 being written last; the two bytes in TBF stay there
abbrev pub asks_to_read : List ℕ
asks_to_read =
    set_up ++ write 0x5 0x45 ∷ write 0x4 0x60 ∷ write 0x6 0x83 ∷ write 0xE 2 ∷ write 0xE 0xAA ∷ write 0x1 0x08 ∷ []

abbrev pub master_read : List ℕ
master_read = asks_to_read ++ 3 ∷ exchange 0x123 0x456 0x3 1 (0x77 ∷ [])

-- an offer whose length says 3, with one byte there
abbrev pub offered : List ℕ
offered = set_up ++ write 0xE 3 ∷ write 0xE 0x11 ∷ write 0x1 0x0B ∷ 3 ∷ []

-- 3H whose length is NAKed: the sending is aborted, and nothing is locked
abbrev pub length_nak : List ℕ
length_nak = offered ++ header 0x525 0x123 0x3 0 ++ answered 8 3 1 ++ 3 ∷ []

-- BH cut after one byte of two, of any master and of 525H; then read out and completed
abbrev pub held_by : ℕ → List ℕ
held_by master = set_up ++ write 0x0 0x10 ∷ 3 ∷ broken_off master 0x123 0xB

abbrev pub lock_taken : List ℕ
lock_taken = held_by 0x525

abbrev pub read_out : List ℕ
read_out = read 0xE ∷ read 0xE ∷ read 0xE ∷ read 0xE ∷ write 0x0 0x10 ∷ []

abbrev pub lock_completed : List ℕ
lock_completed = lock_taken ++ read_out ++ exchange 0x525 0x123 0xB 1 (0x98 ∷ [])

-- a request of 123H with one retry that loses against 023H, whose frame is for it
abbrev pub asks_anew : List ℕ
asks_anew = write 0xE 1 ∷ write 0xE 0xAA ∷ write 0x1 0x08 ∷ []

abbrev pub contender : ℕ → List ℕ
contender mcr = set_up ++ write 0x0 0x10 ∷ to456 mcr ++ asks_anew

abbrev pub loss : List ℕ
loss = contender 0x9F ++ 3 ∷ exchange 0x023 0x123 0xF 1 (0x42 ∷ [])

-- a read request made while RBF has bytes: it holds back, so that the frame of 023H neither beats nor aborts it
abbrev pub held_back : List ℕ
held_back = reception ++ to456 0x83 ++ write 0x1 0x08 ∷ 3 ∷ exchange 0x023 0x456 0xF 1 (0x42 ∷ [])

-- "0FH clear SLRE, a reception whose control was accepted going on"; its end clears SLRE, which 10H set meanwhile
abbrev pub cleared : List ℕ
cleared =
    set_up ++ write 0x0 0x10 ∷ 2 ∷ 1 ∷ field 12 0x525 ++ answered 12 0x123 0 ++ field 4 0xF ++ write 0x1 0x0F ∷ 0
    ∷ answered 8 1 0 ++ write 0x0 0x10 ∷ answered 8 0x42 0

-- a group broadcast, of one byte, and a BH to all that breaks off: "broadcasts do neither"
abbrev pub group : List ℕ
group = set_up ++ write 0x0 0x10 ∷ to_all 0x525 0x1FF 0xF 1

abbrev pub general : List ℕ
general = set_up ++ write 0x0 0x10 ∷ to_all 0x525 0xFFF 0xB 2 ++ answered 8 0x77 1 ++ 3 ∷ []

-- "Master sending starts with the P slot of its own address"; its length says 2, and one byte is there
abbrev pub master_starts : ℕ → List ℕ
master_starts mcr =
    set_up ++ to456 mcr ++ write 0xE 2 ∷ write 0xE 0xAA ∷ write 0x1 0x08 ∷ 2 ∷ 1 ∷ field 12 0x123

abbrev pub master_wants : List ℕ
master_wants = master_starts 0x8F ++ answered 12 0x456 0 ++ answered 4 0xF 0 ++ answered 8 2 0

-- a master, in the mode that UAR1 gives, whose first byte gets NAK 16 times before both are taken
abbrev pub tries_on : ℕ → List ℕ
tries_on uar1 =
    set_up ++ write 0x2 uar1 ∷ asks_for456 0x8F ++ header 0x123 0x456 0xF 0 ++ answered 8 2 0 ++ times 16
    (answered 8 0xAA 1) ++ bytes (0xAA ∷ 0xBB ∷ [])

-- ---- the lock

-- it outlasts a complete EH and a complete FH of the holder
abbrev pub outlasted : List ℕ
outlasted =
    lock_taken ++ read_out ++ exchange 0x525 0x123 0xE 1 (0x98 ∷ []) ++ read_out ++ exchange 0x525 0x123 0xF 1
    (0x97 ∷ [])

-- and an EH or FH that breaks off takes none
abbrev pub none_taken : List ℕ
none_taken = set_up ++ write 0x0 0x10 ∷ broken_off 0x525 0x123 0xE ++ read_out ++ broken_off 0x525 0x123 0xF

-- ended by the holder, it is taken by AH of another master
abbrev pub taken_anew : List ℕ
taken_anew = lock_completed ++ read_out ++ broken_off 0x111 0x123 0xA

-- ---- what is driven

-- a frame's start and its master, before a slave is named
abbrev pub from525 : List ℕ
from525 = 2 ∷ 1 ∷ field 12 0x525

-- an offer of two bytes
abbrev pub two_offered : List ℕ
two_offered = set_up ++ write 0xE 2 ∷ write 0xE 0x11 ∷ write 0xE 0x22 ∷ write 0x1 0x0B ∷ []

-- 0H or 6H behind the master address, up to the status byte, with some words before the slot that ends the length; and
-- so many NAKs for the byte
abbrev pub asked_after : ℕ → List ℕ → List ℕ
asked_after control words = answered 12 0x123 0 ++ answered 4 control 0 ++ field 8 1 ++ words ++ 0 ∷ []

abbrev pub status_asked : List ℕ
status_asked = asked_after 0x0 []

abbrev pub unheard : ℕ → List ℕ
unheard n = times n (answered 8 0x92 1)

-- ---- registers

-- STR, FLG, RDR1, RDR2, LOR1, LOR2, RCR and RBF
abbrev pub read_all : List ℕ
read_all = read 0x0 ∷ read 0x1 ∷ read 0x2 ∷ read 0x3 ∷ read 0x4 ∷ read 0x5 ∷ read 0x8 ∷ read 0xE ∷ []

-- words refused by 1 to 4, "kind not 0, 1, 2", "an unnamed bit is set", "register not in the list for that direction",
-- "value not listed", and by 6 "with MARQ"
abbrev pub turned_down : List ℕ
turned_down =
    0x3000_0000 ∷ 4 ∷ 0x1080_0008 ∷ 0x2000_0001 ∷ write 0x7 0x00 ∷ read 0x6 ∷ write 0x0 0x01 ∷ write 0x1 0x00
    ∷ write 0x2 0x04 ∷ write 0x4 0x01 ∷ write 0x6 0x81 ∷ write 0x6 0x03 ∷ write 0x4 0x70 ∷ write 0x5 0x56
    ∷ write 0x6 0x9A ∷ write 0x1 0x08 ∷ write 0x1 0x0B ∷ write 0x2 0x40 ∷ write 0x3 0x34 ∷ []

-- so many bytes for TBF
abbrev pub filled : ℕ → List ℕ
filled n = times n (write 0xE 0x55 ∷ [])

-- MCR with every control, the highest first, behind a broadcast bit and retries
abbrev pub controls_in : ℕ → ℕ → List ℕ
controls_in upper zero = []
controls_in upper (suc n) = write 0x6 (upper + n) ∷ controls_in upper n

-- of the values below a number those that a register lists, the highest first
abbrev pub listed : ℕ → ℕ → List ℕ
listed register zero = []
listed register (suc v) =
    pick (eqb (number_in (write_refusal reset_registers 2 register v)) refused_value) (listed register v) (v ∷ listed register v)

-- registers in which all is set but what the status byte shows
abbrev pub busy : Registers
busy =
    record {
      own = 0xFFF;
      enabled = false;
      long = true;
      slave = 0xFFF;
      bit = true;
      retries = 7;
      control = 0xF;
      marq = true;
      strq = false;
      slre = true;
      losses = 7;
      lor1 = 0xFF;
      lor2 = 0x1F;
      rdr1 = 40;
      rdr2 = 40;
      marc = 0xF;
      slrc = 0xF;
      locked = false;
      holder = 0xFFF;
    }

-- an offer of one byte
abbrev pub one_offered : List ℕ
one_offered = write 0xE 1 ∷ write 0xE 0x11 ∷ write 0x1 0x0B ∷ []
