-- Logs that are computed: what the texts of tickets 1 and 11 say of each, worked out from them and the layout of a
-- record.
use Rattle.std.specs.Prelude.{true, ◌≡◌, refl, List, [], ◌∷◌, ◌++◌, ℕ, zero, suc, ◌+◌, ◌*◌, ◌-◌, ◌%◌, get_or, length, replicate, take}
use Rattle.std.specs.Int.Count.{ones, ones_in}
use Rattle.line.specs.Cases.{Case, ◌gives◌, all_given}
use Rattle.line.specs.Numbers.{end_broken_data, end_nak_length, end_short, end_whole, slot_idle, slot_start}
use Rattle.line.specs.Parity.{level_of, levels_of, parity_holds, parity_of}
use Rattle.logs.specs.Data.{text_from}
use Rattle.logs.specs.Fields.{end_in, given_in, number_from}
use Rattle.logs.specs.Frames.{frames_of, levels_from, stray_in}
use Rattle.logs.specs.Log.{end_of, frames_after, long_in, number_of, written_of}
use Rattle.logs.specs.Readings.{data_of, equal_frames, equal_said, read_of}
use Rattle.logs.specs.Records.{first_word, marked_by, record_words, records_by, words_behind, words_of}

-- ---- frames as slot words

abbrev pub ack : ℕ
ack = 0

abbrev pub nak : ℕ
nak = 1

-- a field with its P, with a wrong one, and with P and A
abbrev pub checked : ℕ → ℕ → List ℕ
checked width n = levels_of width n ++ parity_of n ∷ []

abbrev pub mischecked : ℕ → ℕ → List ℕ
mischecked width n = levels_of width n ++ (1 - parity_of n) ∷ []

abbrev pub answered : ℕ → ℕ → ℕ → List ℕ
answered width n a = checked width n ++ a ∷ []

-- a frame from 123H to 456H, up to the slave address; then with control FH; then with the length, A everywhere alike
abbrev pub called : ℕ → ℕ → List ℕ
called bit a = slot_start ∷ bit ∷ checked 12 0x123 ++ answered 12 0x456 a

abbrev pub told : ℕ → ℕ → List ℕ
told bit a = called bit a ++ answered 4 0xF a

abbrev pub opened : ℕ → ℕ → ℕ → List ℕ
opened bit a bytes = told bit a ++ answered 8 bytes a

-- an individual frame, ACKed up to its data, and a broadcast, which nobody answers
abbrev pub sized : ℕ → List ℕ
sized bytes = opened 1 ack bytes

abbrev pub spread : ℕ → List ℕ
spread bytes = opened 0 nak bytes

-- an attempt at a byte, and one with a wrong P
abbrev pub sent : ℕ → ℕ → List ℕ
sent byte a = answered 8 byte a

abbrev pub missent : ℕ → ℕ → List ℕ
missent byte a = mischecked 8 byte ++ a ∷ []

abbrev pub times : ℕ → List ℕ → List ℕ
times zero slots = []
times (suc n) slots = slots ++ times n slots

-- ---- records as words

-- the first word of such a frame: how it ended, its length, the bytes ACKed and the attempts after them
abbrev pub broadcast : ℕ → ℕ → ℕ → ℕ → ℕ
broadcast end bytes acked after =
    end + 0xF * 0x40 + bytes * 0x400 + acked * 0x8_0000 + after * 0x200_0000

abbrev pub individual : ℕ → ℕ → ℕ → ℕ → ℕ
individual end bytes acked after = 0x20 + broadcast end bytes acked after

abbrev pub again : ℕ → ℕ
again word = 0x10 + word

-- the second: 456H above 123H
abbrev pub parties : ℕ
parties = 0x45_6123

-- what a reading comes to: the number, the number of frames, which was 99 before, and what is written
abbrev pub read_into : ℕ → ℕ → List ℕ → List ℕ
read_into room mode slots =
    number_of (end_of room slots) ∷ frames_after (end_of room slots) 99
    ∷ written_of (long_in mode) (end_of room slots) slots

abbrev pub read : ℕ → List ℕ → List ℕ
read mode slots = read_into (length slots) mode slots

-- ---- how a frame ends

-- how a frame ends that is cut behind each of so many slots
abbrev pub cut_everywhere : List ℕ → List ℕ → ℕ → List ℕ
cut_everywhere slots cut zero = []
cut_everywhere slots cut (suc n) =
    cut_everywhere slots cut n ++ (get_or (read 0 (take (suc n) slots ++ cut)) 2 0 % 0x10) ∷ []

-- frames of two bytes
abbrev pub individual_two : List ℕ
individual_two = sized 2 ++ sent 0x7B ack ++ sent 0x80 ack

abbrev pub broadcast_two : List ℕ
broadcast_two = spread 2 ++ sent 0x7B nak ++ sent 0x80 nak

-- start and bit are one slot each, the fields behind them 13, 14, 6 and 10, and an attempt ten; "short after a
-- complete attempt", and broken off in the data before any
abbrev pub ends_everywhere : List ℕ
ends_everywhere =
    5 ∷ replicate 13 6 ++ replicate 14 7 ++ replicate 6 8 ++ replicate 10 9 ++ replicate 10 10 ++ 1 ∷ replicate 9 10
    ++ 0 ∷ []

unfoldable pub end_cases : List Case
end_cases =
    (read 0 (sized 2 ++ sent 0x7B ack ++ sent 0x80 ack)
    gives 0 ∷ 1 ∷ individual end_whole 2 2 0 ∷ parties ∷ 0x17B ∷ 0x180 ∷ [])
    ∷ (read 0 (sized 4 ++ sent 0x7B ack ++ sent 0x80 ack ++ sent 0x01 nak ++ sent 0x01 ack ++ sent 0xFE ack)
    gives 0 ∷ 1 ∷ individual end_whole 4 4 0 ∷ parties ∷ 0x17B ∷ 0x180 ∷ 0x201 ∷ 0x1FE ∷ [])
    ∷ (read 0 (sized 2 ++ sent 0x7B ack) gives 0 ∷ 1 ∷ individual end_short 2 1 0 ∷ parties ∷ 0x17B ∷ [])
    ∷ (read 0 (called 1 nak) gives 0 ∷ 1 ∷ 0x22 ∷ parties ∷ [])
    ∷ (read 0 (called 1 ack ++ answered 4 0xF nak) gives 0 ∷ 1 ∷ 0x3E3 ∷ parties ∷ [])
    ∷ (read 0 (told 1 ack ++ answered 8 2 nak) gives 0 ∷ 1 ∷ 0xBE4 ∷ parties ∷ [])
    -- behind a NAK nothing is read, though the line goes on
    ∷ (read 0 (called 1 nak ++ answered 4 0xF ack ++ answered 8 1 ack ++ sent 0x7B ack)
    gives 0 ∷ 1 ∷ 0x22 ∷ parties ∷ [])
    ∷ (read 0 (told 1 ack ++ answered 8 2 nak ++ sent 0x7B ack) gives 0 ∷ 1 ∷ 0xBE4 ∷ parties ∷ [])
    ∷ (read 0 (slot_start ∷ []) gives 0 ∷ 1 ∷ 5 ∷ [])
    ∷ (read 0 (slot_start ∷ 1 ∷ []) gives 0 ∷ 1 ∷ 0x26 ∷ [])
    ∷ (read 0 (slot_start ∷ 1 ∷ checked 12 0x123) gives 0 ∷ 1 ∷ 0x27 ∷ 0x123 ∷ [])
    ∷ (read 0 (called 1 ack) gives 0 ∷ 1 ∷ 0x28 ∷ parties ∷ [])
    ∷ (read 0 (told 1 ack) gives 0 ∷ 1 ∷ 0x3E9 ∷ parties ∷ [])
    ∷ (read 0 (sized 2) gives 0 ∷ 1 ∷ 0xBEA ∷ parties ∷ [])
    -- a broadcast is cut as an individual frame is: before its data, behind a byte, and inside the next
    ∷ (read 0 (spread 2) gives 0 ∷ 1 ∷ broadcast end_broken_data 2 0 0 ∷ parties ∷ [])
    ∷ (read 0 (spread 2 ++ sent 0x7B nak) gives 0 ∷ 1 ∷ broadcast end_short 2 1 0 ∷ parties ∷ 0x17B ∷ [])
    ∷ (read 0 (spread 2 ++ sent 0x7B nak ++ checked 8 0x80)
    gives 0 ∷ 1 ∷ broadcast end_broken_data 2 1 0 ∷ parties ∷ 0x17B ∷ [])
    ∷ (cut_everywhere individual_two [] 65 gives ends_everywhere)
    ∷ (cut_everywhere individual_two (slot_idle ∷ 1 ∷ 1 ∷ []) 65 gives ends_everywhere)
    ∷ (cut_everywhere individual_two (slot_start ∷ 1 ∷ []) 65 gives ends_everywhere)
    ∷ (cut_everywhere broadcast_two [] 65 gives ends_everywhere)
    ∷ []

-- ---- what counts as ACKed

unfoldable pub data_cases : List Case
data_cases =
    -- a wrong P in the header, and in a byte that has A = 0, is as a right one
    (read 0 (slot_start ∷ 1 ∷ mischecked 12 0x123 ++ mischecked 12 0x456 ++ ack ∷ mischecked 4 0xF ++ ack
    ∷ mischecked 8 1 ++ ack ∷ missent 0x7B ack)
    gives 0 ∷ 1 ∷ individual end_whole 1 1 0 ∷ parties ∷ 0x17B ∷ [])
    -- a broadcast's header has neither its P judged nor its A
    ∷ (read 0 (slot_start ∷ 0 ∷ mischecked 12 0x123 ++ mischecked 12 0x456 ++ nak ∷ mischecked 4 1 ++ nak
    ∷ mischecked 8 1 ++ nak ∷ sent 0x7B nak)
    gives 0 ∷ 1 ∷ 0x8_0440 ∷ parties ∷ 0x17B ∷ [])
    -- a byte at its third attempt, and one more; attempts after the last byte, in all where there is none
    ∷ (read 0 (sized 2 ++ times 2 (sent 0x7B nak) ++ sent 0x7B ack ++ sent 0x80 ack)
    gives 0 ∷ 1 ∷ individual end_whole 2 2 0 ∷ parties ∷ 0x37B ∷ 0x180 ∷ [])
    ∷ (read 0 (sized 2 ++ sent 0x7B ack ++ times 2 (sent 0x80 nak))
    gives 0 ∷ 1 ∷ individual end_short 2 1 2 ∷ parties ∷ 0x17B ∷ [])
    ∷ (read 0 (sized 2 ++ times 3 (sent 0x7B nak)) gives 0 ∷ 1 ∷ individual end_short 2 0 3 ∷ parties ∷ [])
    ∷ (read 0 (sized 2 ++ sent 0x7B nak ++ checked 8 0x7B)
    gives 0 ∷ 1 ∷ individual end_broken_data 2 0 1 ∷ parties ∷ [])
    -- behind the last byte of a whole frame nothing is read
    ∷ (read 0 (sized 1 ++ sent 0x7B ack ++ sent 0x80 ack)
    gives 0 ∷ 1 ∷ individual end_whole 1 1 0 ∷ parties ∷ 0x17B ∷ [])
    -- every bit of each field is read; "FFH is 255"
    ∷ (read 0 (slot_start ∷ 1 ∷ checked 12 0xFED ++ answered 12 0xEDF ack ++ answered 4 8 ack ++ answered 8 0xFF ack)
    gives 0 ∷ 1 ∷ (0x2A + 8 * 0x40 + 255 * 0x400) ∷ 0xED_FFED ∷ [])
    -- in a broadcast A says nothing, and P says what counts
    ∷ (read 0 (spread 2 ++ sent 0x7B nak ++ sent 0x80 nak)
    gives 0 ∷ 1 ∷ broadcast end_whole 2 2 0 ∷ parties ∷ 0x17B ∷ 0x180 ∷ [])
    ∷ (read 0 (opened 0 ack 1 ++ missent 0x7B ack) gives 0 ∷ 1 ∷ broadcast end_short 1 0 1 ∷ parties ∷ [])
    -- a bad byte is left out and not repeated: the length's attempts are made, and no more
    ∷ (read 0 (spread 3 ++ sent 0x7B nak ++ missent 0x80 nak ++ sent 0x55 nak)
    gives 0 ∷ 1 ∷ broadcast end_short 3 2 0 ∷ parties ∷ 0x17B ∷ 0x255 ∷ [])
    ∷ (read 0 (spread 2 ++ missent 0x7B nak ++ times 2 (sent 0x80 nak))
    gives 0 ∷ 1 ∷ broadcast end_short 2 1 0 ∷ parties ∷ 0x280 ∷ [])
    ∷ (read 0 (spread 2 ++ sent 0x7B nak ++ missent 0x80 nak)
    gives 0 ∷ 1 ∷ broadcast end_short 2 1 1 ∷ parties ∷ 0x17B ∷ [])
    ∷ (read 0 (spread 3 ++ times 2 (missent 0x7B nak)) gives 0 ∷ 1 ∷ broadcast end_short 3 0 2 ∷ parties ∷ [])
    ∷ []

-- ---- "at most 16 attempts (mode 0) or 32 (mode 1) per frame; a repeated byte is an attempt"

unfoldable pub limit_cases : List Case
limit_cases =
    -- "length 00H means 256", which no frame can hold
    (read 0 (sized 0 ++ times 17 (sent 0x7B ack))
    gives 0 ∷ 1 ∷ individual end_short 256 16 0 ∷ parties ∷ replicate 16 0x17B)
    ∷ (read 1 (sized 0 ++ times 33 (sent 0x7B ack))
    gives 0 ∷ 1 ∷ individual end_short 256 32 0 ∷ parties ∷ replicate 32 0x17B)
    ∷ (read 0 (spread 17 ++ times 17 (sent 0x7B nak))
    gives 0 ∷ 1 ∷ broadcast end_short 17 16 0 ∷ parties ∷ replicate 16 0x17B)
    ∷ (read 1 (spread 33 ++ times 33 (sent 0x7B nak))
    gives 0 ∷ 1 ∷ broadcast end_short 33 32 0 ∷ parties ∷ replicate 32 0x17B)
    -- any mode but 0 has 32
    ∷ (read 2 (spread 17 ++ times 17 (sent 0x7B nak))
    gives 0 ∷ 1 ∷ broadcast end_whole 17 17 0 ∷ parties ∷ replicate 17 0x17B)
    ∷ (read 0 (sized 16 ++ times 16 (sent 0x7B ack))
    gives 0 ∷ 1 ∷ individual end_whole 16 16 0 ∷ parties ∷ replicate 16 0x17B)
    ∷ (read 0 (sized 16 ++ sent 0x7B nak ++ times 16 (sent 0x7B ack))
    gives 0 ∷ 1 ∷ individual end_short 16 15 0 ∷ parties ∷ 0x27B ∷ replicate 14 0x17B)
    ∷ (read 0 (sized 1 ++ times 15 (sent 0x7B nak) ++ sent 0x7B ack)
    gives 0 ∷ 1 ∷ individual end_whole 1 1 0 ∷ parties ∷ 0x107B ∷ [])
    ∷ (read 0 (sized 1 ++ times 16 (sent 0x7B nak) ++ sent 0x7B ack)
    gives 0 ∷ 1 ∷ individual end_short 1 0 16 ∷ parties ∷ [])
    ∷ (read 1 (sized 1 ++ times 31 (sent 0x7B nak) ++ sent 0x7B ack)
    gives 0 ∷ 1 ∷ individual end_whole 1 1 0 ∷ parties ∷ 0x207B ∷ [])
    ∷ (read 1 (sized 1 ++ times 32 (sent 0x7B nak)) gives 0 ∷ 1 ∷ individual end_short 1 0 32 ∷ parties ∷ [])
    ∷ []

-- ---- "again"

-- a whole frame of one byte
abbrev pub one : ℕ → List ℕ
one byte = sized 1 ++ sent byte ack

-- and one whose byte took a second attempt
abbrev pub late : ℕ → List ℕ
late byte = sized 1 ++ sent byte nak ++ sent byte ack

-- one of two bytes, each behind so many attempts that got NAK
abbrev pub two : ℕ → ℕ → List ℕ
two first second =
    sized 2 ++ times first (sent 0x7B nak) ++ sent 0x7B ack ++ times second (sent 0x80 nak) ++ sent 0x80 ack

unfoldable pub again_cases : List Case
again_cases =
    -- the first never is; each like the one before it is, and none is for an earlier one
    (read 0 (times 3 (slot_start ∷ [])) gives 0 ∷ 3 ∷ 5 ∷ again 5 ∷ again 5 ∷ [])
    ∷ (read 0 (one 0x7B ++ one 0x7B ++ one 0x80 ++ one 0x7B)
    gives 0 ∷ 4 ∷ individual end_whole 1 1 0 ∷ parties ∷ 0x17B ∷ again (individual end_whole 1 1 0) ∷ parties ∷ 0x17B
    ∷ individual end_whole 1 1 0 ∷ parties ∷ 0x180 ∷ individual end_whole 1 1 0 ∷ parties ∷ 0x17B ∷ [])
    -- P and A do not count, nor what a byte was in an attempt that got NAK
    ∷ (read 0 (late 0x7B ++ sized 1 ++ missent 0x80 nak ++ missent 0x7B ack)
    gives 0 ∷ 2 ∷ individual end_whole 1 1 0 ∷ parties ∷ 0x27B ∷ again (individual end_whole 1 1 0) ∷ parties ∷ 0x27B
    ∷ [])
    ∷ (read 0 (spread 1 ++ sent 0x7B nak ++ opened 0 ack 1 ++ sent 0x7B ack)
    gives 0 ∷ 2 ∷ broadcast end_whole 1 1 0 ∷ parties ∷ 0x17B ∷ again (broadcast end_whole 1 1 0) ∷ parties ∷ 0x17B
    ∷ [])
    -- nor does the ending, or an attempt that is cut: short or broken off, NAK or broken off behind it
    ∷ (read 0 (sized 2 ++ sent 0x7B ack ++ sized 2 ++ sent 0x7B ack ++ checked 8 0x80)
    gives 0 ∷ 2 ∷ individual end_short 2 1 0 ∷ parties ∷ 0x17B ∷ again (individual end_broken_data 2 1 0) ∷ parties
    ∷ 0x17B ∷ [])
    ∷ (read 0 (called 1 nak ++ called 1 ack) gives 0 ∷ 2 ∷ 0x22 ∷ parties ∷ again 0x28 ∷ parties ∷ [])
    ∷ (read 0 (told 1 ack ++ answered 8 0 nak ++ sized 0)
    gives 0 ∷ 2 ∷ individual end_nak_length 256 0 0 ∷ parties ∷ again (individual end_broken_data 256 0 0) ∷ parties ∷ [])
    -- the attempts of each byte count, not all of them together; those after the last, in all where there is none
    ∷ (read 0 (one 0x7B ++ late 0x7B ++ late 0x7B)
    gives 0 ∷ 3 ∷ individual end_whole 1 1 0 ∷ parties ∷ 0x17B ∷ individual end_whole 1 1 0 ∷ parties ∷ 0x27B
    ∷ again (individual end_whole 1 1 0) ∷ parties ∷ 0x27B ∷ [])
    ∷ (read 0 (two 1 0 ++ two 0 1 ++ two 0 0 ++ two 1 0 ++ two 1 1)
    gives 0 ∷ 5 ∷ individual end_whole 2 2 0 ∷ parties ∷ 0x27B ∷ 0x180 ∷ individual end_whole 2 2 0 ∷ parties ∷ 0x17B
    ∷ 0x280 ∷ individual end_whole 2 2 0 ∷ parties ∷ 0x17B ∷ 0x180 ∷ individual end_whole 2 2 0 ∷ parties ∷ 0x27B
    ∷ 0x180 ∷ individual end_whole 2 2 0 ∷ parties ∷ 0x27B ∷ 0x280 ∷ [])
    ∷ (read 0 (sized 2 ++ sent 0x7B ack ++ sized 2 ++ sent 0x7B ack ++ sent 0x80 nak)
    gives 0 ∷ 2 ∷ individual end_short 2 1 0 ∷ parties ∷ 0x17B ∷ individual end_short 2 1 1 ∷ parties ∷ 0x17B ∷ [])
    ∷ (read 0 (sized 2 ++ sent 0x7B nak ++ sized 2 ++ times 2 (sent 0x7B nak))
    gives 0 ∷ 2 ∷ individual end_short 2 0 1 ∷ parties ∷ individual end_short 2 0 2 ∷ parties ∷ [])
    -- a bad byte of a broadcast is an attempt, too, up to the next byte or after the last
    ∷ (read 0 (spread 2 ++ sent 0x7B nak ++ spread 2 ++ sent 0x7B nak ++ missent 0x80 nak)
    gives 0 ∷ 2 ∷ broadcast end_short 2 1 0 ∷ parties ∷ 0x17B ∷ broadcast end_short 2 1 1 ∷ parties ∷ 0x17B ∷ [])
    ∷ (read 0 (spread 2 ++ missent 0x80 nak ++ sent 0x7B nak ++ spread 2 ++ sent 0x7B nak ++ missent 0x80 nak)
    gives 0 ∷ 2 ∷ broadcast end_short 2 1 0 ∷ parties ∷ 0x27B ∷ broadcast end_short 2 1 1 ∷ parties ∷ 0x17B ∷ [])
    -- a field that is not given is none that is 0: the bit, the master address, the slave address
    ∷ (read 0 (slot_start ∷ slot_start ∷ 0 ∷ []) gives 0 ∷ 2 ∷ 5 ∷ 6 ∷ [])
    ∷ (read 0 (slot_start ∷ 0 ∷ slot_start ∷ 0 ∷ checked 12 0) gives 0 ∷ 2 ∷ 6 ∷ 7 ∷ 0 ∷ [])
    ∷ (read 0 (slot_start ∷ 0 ∷ checked 12 0 ++ slot_start ∷ 0 ∷ checked 12 0 ++ answered 12 0 nak)
    gives 0 ∷ 2 ∷ 7 ∷ 0 ∷ 8 ∷ 0 ∷ [])
    -- each field and each byte counts
    ∷ (read 0 (slot_start ∷ 0 ∷ slot_start ∷ 1 ∷ []) gives 0 ∷ 2 ∷ 6 ∷ 0x26 ∷ [])
    ∷ (read 0 (slot_start ∷ 1 ∷ checked 12 0x123 ++ slot_start ∷ 1 ∷ checked 12 0x124)
    gives 0 ∷ 2 ∷ 0x27 ∷ 0x123 ∷ 0x27 ∷ 0x124 ∷ [])
    ∷ (read 0 (called 1 ack ++ slot_start ∷ 1 ∷ checked 12 0x123 ++ answered 12 0x457 ack)
    gives 0 ∷ 2 ∷ 0x28 ∷ parties ∷ 0x28 ∷ 0x45_7123 ∷ [])
    ∷ (read 0 (told 1 ack ++ called 1 ack ++ answered 4 0xE ack)
    gives 0 ∷ 2 ∷ 0x3E9 ∷ parties ∷ 0x3A9 ∷ parties ∷ [])
    ∷ (read 0 (sized 2 ++ sized 3) gives 0 ∷ 2 ∷ 0xBEA ∷ parties ∷ 0xFEA ∷ parties ∷ [])
    ∷ (read 0 (sized 2 ++ sent 0x7B ack ++ sized 2 ++ sent 0x7B ack ++ sent 0x80 ack)
    gives 0 ∷ 2 ∷ individual end_short 2 1 0 ∷ parties ∷ 0x17B ∷ individual end_whole 2 2 0 ∷ parties ∷ 0x17B ∷ 0x180
    ∷ [])
    ∷ []

-- ---- the list

unfoldable pub list_cases : List Case
list_cases =
    (read 0 [] gives 0 ∷ 0 ∷ [])
    ∷ (read 0 (0 ∷ 1 ∷ slot_idle ∷ []) gives 0 ∷ 0 ∷ [])
    -- levels and idles outside frames are passed over, a start inside a frame begins the next
    ∷ (read 0 (1 ∷ slot_idle ∷ slot_idle ∷ slot_start ∷ 1 ∷ slot_idle ∷ 0 ∷ 1 ∷ []) gives 0 ∷ 1 ∷ 0x26 ∷ [])
    ∷ (read 0 (called 1 ack ++ one 0x7B)
    gives 0 ∷ 2 ∷ 0x28 ∷ parties ∷ individual end_whole 1 1 0 ∷ parties ∷ 0x17B ∷ [])
    -- 12 comes ahead of 16, and 16 from any place of the list; what is refused keeps the number of frames
    ∷ (read_into 2 0 (slot_start ∷ 1 ∷ 4 ∷ []) gives 12 ∷ 99 ∷ [])
    ∷ (read_into 2 0 (slot_start ∷ 1 ∷ 1 ∷ []) gives 12 ∷ 99 ∷ [])
    ∷ (read_into 3 0 (slot_start ∷ 1 ∷ 4 ∷ []) gives 16 ∷ 99 ∷ [])
    ∷ (read_into 4 0 (slot_start ∷ slot_idle ∷ 0 ∷ 0x10 ∷ []) gives 16 ∷ 99 ∷ [])
    ∷ (read_into 9 0 (0x8000_0002 ∷ slot_start ∷ 1 ∷ []) gives 16 ∷ 99 ∷ [])
    ∷ (read_into 9 0 (slot_start ∷ 1 ∷ 1 ∷ []) gives 0 ∷ 1 ∷ 0x26 ∷ [])
    ∷ []

pub log_cases : all_given (end_cases ++ data_cases ++ limit_cases ++ again_cases ++ list_cases) ≡ true
unfolding all_given end_cases data_cases limit_cases again_cases list_cases ones ones_in level_of levels_of parity_holds parity_of
    text_from end_in given_in number_from frames_of levels_from stray_in end_of frames_after number_of written_of data_of read_of
    equal_frames equal_said first_word marked_by record_words records_by words_behind words_of
log_cases = refl
