-- The figures of document 01 and of the tickets, each named once for the definitions of every library. src/numbers.rt
-- names them for the code; a proof that uses a figure fails where the two differ.
use Rattle.std.specs.Prelude.{ℕ, Bool}
use Rattle.line.specs.Choice.{pick}

-- Words: the kind is in the top four bits, "0, slot", "1, register write", "2, register read", then the answers
abbrev pub kind_slot : ℕ
kind_slot = 0

abbrev pub kind_write : ℕ
kind_write = 1

abbrev pub kind_read : ℕ
kind_read = 2

abbrev pub kind_taken : ℕ
kind_taken = 8

abbrev pub kind_written : ℕ
kind_written = 9

abbrev pub kind_value : ℕ
kind_value = 10

abbrev pub kind_refused : ℕ
kind_refused = 15

-- A slot word: "bits 1-0 are 0 or 1 (settled level), 2 (start), 3 (idle)"
abbrev pub slot_low : ℕ
slot_low = 0

abbrev pub slot_high : ℕ
slot_high = 1

abbrev pub slot_start : ℕ
slot_start = 2

abbrev pub slot_idle : ℕ
slot_idle = 3

-- "what the unit drives in the next slot: 0, 1 (released) or 2 (start)"
abbrev pub drive_low : ℕ
drive_low = 0

abbrev pub drive_released : ℕ
drive_released = 1

abbrev pub drive_start : ℕ
drive_start = 2

-- Refused because of the input
abbrev pub refused_kind : ℕ
refused_kind = 1

abbrev pub refused_stray_bit : ℕ
refused_stray_bit = 2

abbrev pub refused_register : ℕ
refused_register = 3

abbrev pub refused_value : ℕ
refused_value = 4

abbrev pub refused_byte_count : ℕ
refused_byte_count = 11

abbrev pub refused_short_list : ℕ
refused_short_list = 12

abbrev pub refused_contender_count : ℕ
refused_contender_count = 13

abbrev pub refused_contender_range : ℕ
refused_contender_range = 14

abbrev pub refused_contenders_alike : ℕ
refused_contenders_alike = 15

abbrev pub refused_no_slot : ℕ
refused_no_slot = 16

abbrev pub refused_ranges : ℕ
refused_ranges = 19

abbrev pub refused_pulse : ℕ
refused_pulse = 20

abbrev pub refused_roll_full : ℕ
refused_roll_full = 21

abbrev pub refused_roll_alike : ℕ
refused_roll_alike = 22

abbrev pub refused_roll_absent : ℕ
refused_roll_absent = 23

abbrev pub refused_window : ℕ
refused_window = 25

-- The bytes that keep a unit or a roll between calls are too few or too many: none of the papers' numbers
abbrev pub bad_size : ℕ
bad_size = 100

-- Refused because of the state
abbrev pub refused_level : ℕ
refused_level = 5

abbrev pub refused_out_of_turn : ℕ
refused_out_of_turn = 6

abbrev pub refused_full : ℕ
refused_full = 7

abbrev pub refused_too_few : ℕ
refused_too_few = 8

abbrev pub refused_empty : ℕ
refused_empty = 9

abbrev pub refused_unable : ℕ
refused_unable = 10

-- Frame: "length 00H means 256", "at most 16 attempts (mode 0) or 32 (mode 1)"
abbrev pub length_of_zero : ℕ
length_of_zero = 256

abbrev pub attempts_mode0 : ℕ
attempts_mode0 = 16

abbrev pub attempts_mode1 : ℕ
attempts_mode1 = 32

-- .. in mode 1 where it is `long`
abbrev pub attempts_of : Bool → ℕ
attempts_of long = pick long attempts_mode1 attempts_mode0

abbrev pub general_broadcast : ℕ
general_broadcast = 0xFFF

-- Buffers: "TBF, 33 bytes", "RBF, 40 bytes"
abbrev pub tbf_bytes : ℕ
tbf_bytes = 33

abbrev pub rbf_bytes : ℕ
rbf_bytes = 40

-- Registers: "Written: 0H CTR .. EH TBF", "Read: 0H STR .. EH RBF"
abbrev pub reg_ctr : ℕ
reg_ctr = 0x0

abbrev pub reg_cmr : ℕ
reg_cmr = 0x1

abbrev pub reg_uar1 : ℕ
reg_uar1 = 0x2

abbrev pub reg_uar2 : ℕ
reg_uar2 = 0x3

abbrev pub reg_sar1 : ℕ
reg_sar1 = 0x4

abbrev pub reg_sar2 : ℕ
reg_sar2 = 0x5

abbrev pub reg_mcr : ℕ
reg_mcr = 0x6

abbrev pub reg_tbf : ℕ
reg_tbf = 0xE

abbrev pub reg_str : ℕ
reg_str = 0x0

abbrev pub reg_flg : ℕ
reg_flg = 0x1

abbrev pub reg_rdr1 : ℕ
reg_rdr1 = 0x2

abbrev pub reg_rdr2 : ℕ
reg_rdr2 = 0x3

abbrev pub reg_lor1 : ℕ
reg_lor1 = 0x4

abbrev pub reg_lor2 : ℕ
reg_lor2 = 0x5

abbrev pub reg_rcr : ℕ
reg_rcr = 0x8

abbrev pub reg_rbf : ℕ
reg_rbf = 0xE

-- "CTR (00H nothing, 08H reset, 10H set SLRE)"; "CMR (08H master request, 0BH offer slave data, 0FH clear SLRE, ..
-- 40H copy the lock into LOR ..)"
abbrev pub ctr_nothing : ℕ
ctr_nothing = 0x00

abbrev pub ctr_reset : ℕ
ctr_reset = 0x08

abbrev pub ctr_set_slre : ℕ
ctr_set_slre = 0x10

abbrev pub cmr_request : ℕ
cmr_request = 0x08

abbrev pub cmr_offer : ℕ
cmr_offer = 0x0B

abbrev pub cmr_clear_slre : ℕ
cmr_clear_slre = 0x0F

abbrev pub cmr_copy_lock : ℕ
cmr_copy_lock = 0x40

-- "Codes, in the order started, data wanted or full, normal, aborted: 0 to 3 sending, 4 to 7 receiving, 8 to 11
-- broadcast reception": the first of each kind, and how far behind it the others are; only a sending can want data.
-- "RCR FFH" is none of them
abbrev pub code_sending : ℕ
code_sending = 0

abbrev pub code_receiving : ℕ
code_receiving = 4

abbrev pub code_broadcast_receiving : ℕ
code_broadcast_receiving = 8

abbrev pub code_wanted : ℕ
code_wanted = 1

abbrev pub code_normal : ℕ
code_normal = 2

abbrev pub code_aborted : ℕ
code_aborted = 3

abbrev pub code_at_reset : ℕ
code_at_reset = 15

-- The contest: at most 50 contenders, an address of twelve bits, lost in slots "2 to 14, start being 1"
abbrev pub most_contenders : ℕ
most_contenders = 50

abbrev pub highest_address : ℕ
highest_address = 0xFFF

abbrev pub contest_slots : ℕ
contest_slots = 13

abbrev pub last_contest_slot : ℕ
last_contest_slot = 14

-- A roll as bytes that a host keeps: the count, then 50 requests of two bytes
abbrev pub roll_bytes : ℕ
roll_bytes = 101

-- The load: "among the latest w, w from 1 to 4,096"
abbrev pub most_window : ℕ
most_window = 4096

-- How a frame of a log ended, as its record has it: "whole, short after a complete attempt, NAK at slave address,
-- control or length, broken off in which field"
abbrev pub end_whole : ℕ
end_whole = 0

abbrev pub end_short : ℕ
end_short = 1

abbrev pub end_nak_slave : ℕ
end_nak_slave = 2

abbrev pub end_nak_control : ℕ
end_nak_control = 3

abbrev pub end_nak_length : ℕ
end_nak_length = 4

abbrev pub end_broken_bit : ℕ
end_broken_bit = 5

abbrev pub end_broken_master : ℕ
end_broken_master = 6

abbrev pub end_broken_slave : ℕ
end_broken_slave = 7

abbrev pub end_broken_control : ℕ
end_broken_control = 8

abbrev pub end_broken_length : ℕ
end_broken_length = 9

abbrev pub end_broken_data : ℕ
end_broken_data = 10
