-- The marked cases of this layer, added to those below, and the stories (`Stories.antt`) that an edit of a rule needs.
-- The others are in `applied`.
use Rattle.std.specs.Prelude.{true, false, ◌≡◌, refl, List, [], ◌∷◌, ◌++◌}
use Rattle.line.specs.Cases.{Case, ◌gives◌, all_given, line_cases}
use Rattle.line.specs.Choice.{◌▹◌}
use Rattle.contenders.specs.Cases.{contest_cases}
use Rattle.contenders.specs.Contest.{number_of, settled, remaining, loss_of, losses_of}
use Rattle.line.specs.Places.{first_place}
use Rattle.place.specs.Cases.{answered, field, frame_cases, heard, slots_taken, spoilt}
use Rattle.isolation.specs.Runs.{answers}
use Rattle.rules.specs.State.{reset, status_byte, reset_registers}
use Rattle.rules.specs.Registers.{str_byte}
use Rattle.rules.specs.Machine.{unit}
use Rattle.rules.specs.Opened.{all_rules}
use Rattle.rules.specs.Stories.{write, read, header, exchange, broken_off, set_up, as_reset, rcr, flg, lock, rdr1}
use Rattle.rules.specs.Stories.{rdr2, tbf, rbf, answering, taken, values, refusals, wrote, as_slave, tells}
use Rattle.rules.specs.Stories.{reception, to456, asks_to_write, asks_to_read, master_read, length_nak, held_by}
use Rattle.rules.specs.Stories.{lock_taken, read_out, loss, held_back, cleared, group, general, master_wants}
use Rattle.rules.specs.Stories.{tries_on, outlasted, none_taken, taken_anew, two_offered, status_asked, unheard}
use Rattle.rules.specs.Stories.{from525, read_all, turned_down, filled, controls_in, listed, busy, one_offered}
use Rattle.rules.specs.Stories.{asked_after, ◌leaves◌}

-- "master 525H, FH, length 2: RBF begins 52H 5FH 02H"; "After reset the status byte is now 82H"; the listing's example;
-- then a story for each wrong rule that no theorem refuses
unfoldable pub unit_cases : List Case
unit_cases =
    (reception leaves as_reset ▹ rcr 0xF6 ▹ rdr2 5 ▹ rbf (0x52 ∷ 0x5F ∷ 0x02 ∷ 0xA5 ∷ 0x5A ∷ []))
    ∷ (status_byte reset_registers true ∷ [] gives 0x82 ∷ [])
    ∷ (answers unit reset (0x2000_0000 ∷ 0x1600_008F ∷ 0x1100_0008 ∷ 0x0000_0002 ∷ 0x3000_0000 ∷ [])
    gives 0xA000_0150 ∷ 0x9000_0100 ∷ 0xF000_0008 ∷ 0x8000_0100 ∷ 0xF000_0001 ∷ [])
    -- 3H that breaks off locks the slave, and not its master
    ∷ (asks_to_read ++ broken_off 0x123 0x456 0x3 leaves as_reset ▹ rcr 0x7F ▹ rdr1 4 ▹ tbf (0x02 ∷ 0xAA ∷ [])
    ▹ rbf (0x45 ∷ 0x63 ∷ 0x02 ∷ 0x99 ∷ []))
    -- "Wanted comes when TBF is then empty"; "the end of a sending request empties TBF", NAK at the length locks nobody
    ∷ (master_wants leaves as_reset ▹ rcr 0x1F ▹ flg 0x40)
    ∷ (length_nak leaves as_reset ▹ rcr 0xF3)
    -- a contest lost, and a read request that holds back
    ∷ (loss leaves as_reset ▹ rcr 0xF6 ▹ flg 0x40 ▹ rdr2 4 ▹ tbf (0x01 ∷ 0xAA ∷ [])
    ▹ rbf (0x02 ∷ 0x3F ∷ 0x01 ∷ 0x42 ∷ []))
    ∷ (held_back leaves as_reset ▹ rcr 0xF6 ▹ flg 0x40 ▹ rdr2 5 ▹ rbf (0x52 ∷ 0x5F ∷ 0x02 ∷ 0xA5 ∷ 0x5A ∷ []))
    -- 0FH leaves "a reception whose control was accepted going on"; reset drops it
    ∷ (cleared leaves as_reset ▹ rcr 0xF6 ▹ rdr2 4 ▹ rbf (0x52 ∷ 0x5F ∷ 0x01 ∷ 0x42 ∷ []))
    ∷ (set_up ++ write 0x0 0x10 ∷ header 0x525 0x123 0xB 0 ++ answered 8 2 0 ++ write 0x0 0x08 ∷ answered 8 0x99 0
    ++ 3 ∷ [] leaves as_reset)
    -- "bad parity in any field ends it", with P; "Broadcasts do neither"
    ∷ (group ++ spoilt 8 0x77 leaves as_reset ▹ rcr 0xFB ▹ rdr2 3 ▹ rbf (0x52 ∷ 0x5F ∷ 0x01 ∷ []))
    ∷ (general leaves as_reset ▹ rcr 0xFB ▹ rdr2 4 ▹ rbf (0x52 ∷ 0x5B ∷ 0x02 ∷ 0x77 ∷ []))
    -- of EH and FH the lock takes no notice; taken anew, it names the new master
    ∷ (outlasted leaves as_reset ▹ rcr 0xF6 ▹ lock 0x1525 ▹ rdr2 4 ▹ rbf (0x52 ∷ 0x5F ∷ 0x01 ∷ 0x97 ∷ []))
    ∷ (none_taken leaves as_reset ▹ rcr 0xF7 ▹ rdr2 4 ▹ rbf (0x52 ∷ 0x5F ∷ 0x02 ∷ 0x99 ∷ []))
    ∷ (taken_anew leaves as_reset ▹ rcr 0xF7 ▹ lock 0x1111 ▹ rdr2 4 ▹ rbf (0x11 ∷ 0x1A ∷ 0x02 ∷ 0x99 ∷ []))
    -- "0H, 6H: length 1 and the status byte. 4H, 5H: .. the holder's low 8 bits, or its high 4 bits"
    ∷ (answering (held_by 0xA37)
    (exchange 0x111 0x123 0x0 1 (0x96 ∷ []) ++ exchange 0x111 0x123 0x4 1 (0x37 ∷ [])
    ++ exchange 0x111 0x123 0x5 1 (0x0A ∷ []) ++ header 0x111 0x123 0x6 1 ++ 3 ∷ [])
    gives taken (tells 0x96 ++ tells 0x37 ++ tells 0x0A ++ as_slave (heard 4 1)))
    -- "A status or lock byte is fixed when its data field first begins": 0BH comes too late for both attempts
    ∷ (answering (set_up ++ filled 2 ++ from525 ++ status_asked ++ write 0x1 0x0B ∷ unheard 1) (answered 8 0x92 0)
    gives taken (0 ∷ 0 ∷ 1 ∷ 0 ∷ 0 ∷ 1 ∷ 0 ∷ 1 ∷ 1 ∷ 1 ∷ []))
    -- RBF is read out and SLRE set before it begins; 0FH comes too late
    ∷ (answering (reception ++ from525 ++ asked_after 0x6 (read 0xE ∷ read_out) ++ write 0x1 0x0F ∷ answered 8 0x90 1)
    (answered 8 0x90 0) gives taken (0 ∷ 0 ∷ 1 ∷ 0 ∷ 0 ∷ 0 ∷ 0 ∷ 0 ∷ 1 ∷ 1 ∷ []))
    -- after 16 attempts a master's request is aborted
    ∷ (tries_on 0x32 leaves as_reset ▹ rcr 0x3F)
    -- "The mode counts as it was at the frame's start slot": no 17th attempt, UAR1 being first written inside the frame
    ∷ (answering (write 0x3 0x12 ∷ from525 ++ write 0x2 0x33 ∷ status_asked ++ unheard 16) (1 ∷ 1 ∷ [])
    gives taken (1 ∷ 1 ∷ []))
    ∷ []

-- registers and refusals
unfoldable pub register_cases : List Case
register_cases =
    -- "Reset: RCR FFH, MCR 80H, all else zero or empty"; 9, and 10 of 000H that asks itself with 0H
    (answering (lock_taken ++ write 0x0 0x08 ∷ []) (read_all ++ write 0x1 0x08 ∷ [])
    gives values (0x50 ∷ 0x00 ∷ 0x00 ∷ 0x00 ∷ 0x00 ∷ 0x00 ∷ 0xFF ∷ []) ++ refusals (9 ∷ 10 ∷ []))
    -- "40H copy the lock into LOR, zeros if unlocked"
    ∷ (answering lock_taken (read 0x4 ∷ read 0x5 ∷ []) gives values (0x00 ∷ 0x00 ∷ []))
    ∷ (answering (held_by 0xA37 ++ write 0x1 0x40 ∷ []) read_all
    gives values (0x40 ∷ 0x00 ∷ 0x00 ∷ 0x04 ∷ 0x37 ∷ 0x1A ∷ 0xF7 ∷ 0xA3 ∷ []))
    ∷ (answering (lock_taken ++ write 0x1 0x40 ∷ exchange 0x525 0x123 0x6 1 (0x96 ∷ []) ++ write 0x1 0x40 ∷ [])
    (read 0x4 ∷ read 0x5 ∷ []) gives values (0x00 ∷ 0x00 ∷ []))
    ∷ (answering master_read read_all gives values (0x00 ∷ 0x00 ∷ 0x04 ∷ 0x00 ∷ 0x00 ∷ 0x00 ∷ 0x6F ∷ 0x45 ∷ []))
    -- "FLG (MARQ, STRQ, SLRE in bits 6-4)", "idle not seen", and what is driven after host words and a level
    ∷ (answering (asks_to_read ++ write 0x0 0x10 ∷ []) (read 0x1 ∷ 3 ∷ read 0x1 ∷ 1 ∷ read 0x1 ∷ [])
    gives 0xA000_0150 ∷ 0x8000_0200 ∷ 0xA000_0250 ∷ 0x8000_0100 ∷ 0xA000_0150 ∷ [])
    -- "0FH clear SLRE", and nothing else
    ∷ (answering (asks_to_read ++ write 0x0 0x10 ∷ []) (write 0x1 0x0F ∷ read 0x1 ∷ [])
    gives 0x9000_0100 ∷ 0xA000_0140 ∷ [])
    ∷ (answering (two_offered ++ write 0x0 0x10 ∷ write 0x0 0x00 ∷ []) (read 0x1 ∷ write 0x1 0x0F ∷ read 0x1 ∷ [])
    gives 0xA000_0130 ∷ 0x9000_0100 ∷ 0xA000_0120 ∷ [])
    -- "STR (TFL, TEP, RFL, REP ..)": of so many bytes in TBF and in RBF; no list of words fills RBF
    ∷ (str_byte 0 1 ∷ str_byte 1 0 ∷ str_byte 32 39 ∷ str_byte 33 40 ∷ [] gives 0x40 ∷ 0x10 ∷ 0x00 ∷ 0xA0 ∷ [])
    -- the status byte shows what it names, and nothing else of the registers
    ∷ (status_byte busy true ∷ status_byte busy false ∷ [] gives 0x80 ∷ 0x82 ∷ [])
    -- an offer brings no code
    ∷ (answering (reception ++ one_offered) (read 0x8 ∷ []) gives values (0xF6 ∷ []))
    -- "MCR control undefined; MCR broadcast with a read control": FH to 0H, individual and broadcast
    ∷ (answering set_up (controls_in 0x80 16)
    gives wrote (0 ∷ 0 ∷ 4 ∷ 4 ∷ 0 ∷ 0 ∷ 4 ∷ 4 ∷ 0 ∷ 0 ∷ 0 ∷ 0 ∷ 0 ∷ 4 ∷ 4 ∷ 0 ∷ []))
    ∷ (answering set_up (controls_in 0x00 16)
    gives wrote (0 ∷ 0 ∷ 4 ∷ 4 ∷ 0 ∷ 0 ∷ 4 ∷ 4 ∷ 4 ∷ 4 ∷ 4 ∷ 4 ∷ 4 ∷ 4 ∷ 4 ∷ 4 ∷ []))
    ∷ (answering (asks_to_write 0x8F) turned_down
    gives refusals (1 ∷ 2 ∷ 2 ∷ 2 ∷ 3 ∷ 3 ∷ 4 ∷ 4 ∷ 4 ∷ 4 ∷ 4 ∷ 4 ∷ 6 ∷ 6 ∷ 6 ∷ 6 ∷ 6 ∷ 6 ∷ 6 ∷ []))
    -- 4, "value not listed": of all 256 values CTR takes three, and CMR four
    ∷ (listed 0x0 256 gives 0x10 ∷ 0x08 ∷ 0x00 ∷ [])
    ∷ (listed 0x1 256 gives 0x40 ∷ 0x0F ∷ 0x0B ∷ 0x08 ∷ [])
    -- 3: each "register not in the list for that direction"
    ∷ (answering set_up
    (write 0x7 0 ∷ write 0x8 0 ∷ write 0x9 0 ∷ write 0xA 0 ∷ write 0xB 0 ∷ write 0xC 0 ∷ write 0xD 0 ∷ write 0xF 0 ∷ [])
    gives refusals (3 ∷ 3 ∷ 3 ∷ 3 ∷ 3 ∷ 3 ∷ 3 ∷ 3 ∷ []))
    ∷ (answering set_up
    (read 0x6 ∷ read 0x7 ∷ read 0x9 ∷ read 0xA ∷ read 0xB ∷ read 0xC ∷ read 0xD ∷ read 0xF ∷ [])
    gives refusals (3 ∷ 3 ∷ 3 ∷ 3 ∷ 3 ∷ 3 ∷ 3 ∷ 3 ∷ []))
    -- 4: each bit of UAR1 and SAR1 that has to be 0
    ∷ (answering set_up
    (write 0x2 0x34 ∷ write 0x2 0x38 ∷ write 0x4 0x61 ∷ write 0x4 0x62 ∷ write 0x4 0x64 ∷ write 0x4 0x68 ∷ [])
    gives refusals (4 ∷ 4 ∷ 4 ∷ 4 ∷ 4 ∷ 4 ∷ []))
    -- 5, "level 1 while the unit drives 0": it is no slot, and the ACK is still given
    ∷ (answering (set_up ++ from525 ++ field 12 0x123) (1 ∷ 0 ∷ []) gives 0xF000_0005 ∷ 0x8000_0100 ∷ [])
    -- 6, "CMR 08H, 0BH with .. STRQ; UAR with .. STRQ, SLRE or locked"
    ∷ (answering two_offered (write 0x1 0x08 ∷ write 0x1 0x0B ∷ write 0x2 0x32 ∷ write 0x3 0x12 ∷ [])
    gives refusals (6 ∷ 6 ∷ 6 ∷ 6 ∷ []))
    ∷ (answering (set_up ++ write 0x0 0x10 ∷ []) (write 0x2 0x32 ∷ write 0x3 0x12 ∷ []) gives refusals (6 ∷ 6 ∷ []))
    ∷ (answering lock_taken (write 0x2 0x32 ∷ write 0x3 0x12 ∷ []) gives refusals (6 ∷ 6 ∷ []))
    -- 7, "TBF write at 33 bytes"; TFL
    ∷ (answering (filled 32) (read 0x0 ∷ write 0xE 0 ∷ write 0xE 0 ∷ read 0x0 ∷ [])
    gives 0xA000_0110 ∷ 0x9000_0100 ∷ 0xF000_0007 ∷ 0xA000_0190 ∷ [])
    -- "Reset: .. waiting for a start, idle not seen": a 0 is driven no more, nor is start
    ∷ (answering (set_up ++ from525 ++ field 12 0x123) (write 0x0 0x08 ∷ 1 ∷ []) gives 0x9000_0100 ∷ 0x8000_0100 ∷ [])
    ∷ (answering (3 ∷ write 0x0 0x08 ∷ set_up ++ to456 0x83) (write 0x1 0x08 ∷ []) gives wrote (0 ∷ []))
    -- 10, "individual to the own address"; a broadcast to the own group is accepted
    ∷ (answering (set_up ++ write 0x4 0x30 ∷ write 0x5 0x12 ∷ write 0x6 0x8F ∷ filled 2)
    (write 0x1 0x08 ∷ write 0x6 0x0F ∷ write 0x1 0x08 ∷ []) gives wrote (10 ∷ 0 ∷ 0 ∷ []))
    -- 8, "TBF under 2 bytes"; 10, "0BH with sending disabled"
    ∷ (answering (set_up ++ to456 0x8F ++ filled 1) (write 0x1 0x08 ∷ write 0x1 0x0B ∷ []) gives refusals (8 ∷ 8 ∷ []))
    ∷ (answering (filled 2) (write 0x1 0x0B ∷ read 0x1 ∷ []) gives refusals (10 ∷ []) ++ values (0x00 ∷ []))
    ∷ []

-- every marked case, and these stories
pub unit-cases : all_given
    (line_cases ++ contest_cases ++ frame_cases ++ unit_cases ++ register_cases) ≡ true
unfolding all_given line_cases contest_cases frame_cases unit_cases register_cases all_rules losses_of loss_of settled
    remaining number_of first_place slots_taken
unit-cases = refl
