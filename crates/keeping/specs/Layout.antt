-- Where the parts of a unit lie in the bytes that keep it. A number of 16 bits takes two bytes, the lower first; a flag
-- is 0 or 1.
--
--    0  1  own address            2  sending enabled           3  mode 1
--    4  5  slave address          6  broadcast bit             7  retries                 8  control
--    9  MARQ                     10  STRQ                     11  SLRE                   12  losses
--   13  LOR1                     14  LOR2                     15  RDR1                   16  RDR2
--   17  MARC                     18  SLRC                     19  locked                 20 21  holder
--
--   22  place: 0 waiting, 1 to 6 in the broadcast bit, the master address, the slave address, control, length, data
--   23  count in the field       24 25  bits of the field     26  broadcast              27 28  master
--   29  its parity held          30 31  slave                 32  control                33 34  length
--   35  attempts                 36 37  bytes ACKed           38  judgement              39  leads
--   40  sends                    41  byte that it sends       42  attempts at most
--   43  the latest slot was idle
--
--   44  how many bytes TBF has, then those bytes, oldest first, then zeros up to 77
--   78  how many bytes RBF has, then those bytes, oldest first, then zeros up to 118
use Rattle.std.specs.Prelude.{List, ℕ, ◌-◌, drop, take}

-- where each part ends and the next begins; the frame's has the latest slot in it
abbrev pub registers_end : ℕ
registers_end = 22

abbrev pub idle_place : ℕ
idle_place = 43

abbrev pub frame_end : ℕ
frame_end = 44

abbrev pub tbf_end : ℕ
tbf_end = 78

-- how many bytes keep a unit
abbrev pub state_bytes : ℕ
state_bytes = 119

-- the elements of a list from one place up to another
abbrev pub part : ℕ → ℕ → List ℕ → List ℕ
part from to l = take (to - from) (drop from l)
