-- Stories: whole lists of words run by the definitions, with what they leave and what is answered. Those that an edit
-- of a rule needs stand in `Cases.antt` of `rules`.
use mathlib.Core.Bool.{true}
use mathlib.Core.Path.{◌≡◌, refl}
use mathlib.Core.List.{List, [], ◌∷◌, ◌++◌}
use Prim.Native.Nat.{ℕ}
use Rattle.line.specs.Cases.{Case, ◌gives◌, all_given}
use Rattle.line.specs.Choice.{◌▹◌}
use Rattle.place.specs.Cases.{answered, attempts_of, field, heard, released, spoilt, times}
use Rattle.rules.specs.Opened.{all_rules}
use Rattle.rules.specs.Stories.{write, read, header, exchange, broken_off, to_all, set_up, as_reset, rcr, flg, lock, rdr1}
use Rattle.rules.specs.Stories.{rdr2, tbf, rbf, answering, taken, values, as_slave, tells, reception, to456}
use Rattle.rules.specs.Stories.{asks_to_write, asks_to_read, master_read, offered, lock_taken, read_out, lock_completed}
use Rattle.rules.specs.Stories.{asks_anew, contender, loss, held_back, group, master_starts, master_wants, tries_on}
use Rattle.rules.specs.Stories.{from525, two_offered, asked_after, status_asked, unheard, turned_down, filled, one_offered}
use Rattle.rules.specs.Stories.{◌leaves◌}

-- ---- words

-- what the master 123H drives after the idle slot: start, broadcast bit, its address, 456H, control and the rest
abbrev as_master : ℕ → ℕ → List ℕ → List ℕ
as_master bit control rest =
    2 ∷ bit ∷ field 12 0x123 ++ answered 12 0x456 1 ++ answered 4 control 1 ++ rest ++ released 2

-- a master write of two bytes to 456H
abbrev master_write : List ℕ
master_write = asks_to_write 0x8F ++ 3 ∷ exchange 0x123 0x456 0xF 2 (0xAA ∷ 0xBB ∷ [])

-- slave sending with 3H: the length says 3, one byte is there, so more is wanted when it is drawn, and it aborts at
-- its ACK
abbrev wanted : List ℕ
wanted = offered ++ header 0x525 0x123 0x3 0 ++ answered 8 3 0

abbrev ran_empty : List ℕ
ran_empty = wanted ++ answered 8 0x11 0 ++ 3 ∷ []

-- 6H of a stranger is NAK; of the holder it reads the status, which still shows the lock, and unlocks
abbrev stranger6 : List ℕ
stranger6 = lock_taken ++ header 0x111 0x123 0x6 1 ++ 3 ∷ []

abbrev holder6 : List ℕ
holder6 = stranger6 ++ exchange 0x525 0x123 0x6 1 (0x96 ∷ [])

-- a contest lost without a retry
abbrev last_loss : List ℕ
last_loss = contender 0x8F ++ 3 ∷ exchange 0x023 0x123 0xF 1 (0x42 ∷ [])

-- "After the first attempt and MCR's retries all lost, the request is aborted"; the next one has its own retries
abbrev lost : ℕ → List ℕ
lost n = times n (2 ∷ 1 ∷ field 12 0x023)

abbrev lost_twice : List ℕ
lost_twice = loss ++ lost 1

abbrev lost_anew : List ℕ
lost_anew = lost_twice ++ 3 ∷ asks_anew ++ lost 1

-- the first reception read out, and a second frame and a third like it: none is deaf later
abbrev again : ℕ → List ℕ
again byte = read 0xE ∷ read_out ++ exchange 0x525 0x123 0xF 2 (byte ∷ 0x5B ∷ [])

abbrev third_frame : List ℕ
third_frame = reception ++ again 0xA6 ++ again 0xA7

-- "length 00H means 256": one byte is not all of it
abbrev length256 : List ℕ
length256 = set_up ++ write 0x0 0x10 ∷ header 0x525 0x123 0xF 0 ++ answered 8 0 0 ++ answered 8 0x42 0 ++ 3 ∷ []

-- "At most 16 attempts": of 17 bytes 16 are stored, and BH has not all ACKed
abbrev too_long : List ℕ
too_long = set_up ++ write 0x0 0x10 ∷ header 0x525 0x123 0xB 0 ++ answered 8 17 0 ++ attempts_of 16

-- an EH and an FH that break off: the lock outlasts them
abbrev outlasted_broken : List ℕ
outlasted_broken = lock_taken ++ read_out ++ broken_off 0x525 0x123 0xE ++ read_out ++ broken_off 0x525 0x123 0xF

-- 7H that breaks off takes no lock, and 6H whose byte is not ACKed ends none
abbrev ran_empty7 : List ℕ
ran_empty7 = offered ++ header 0x525 0x123 0x7 0 ++ answered 8 3 0 ++ answered 8 0x11 0

abbrev unheard6 : List ℕ
unheard6 = lock_taken ++ header 0x525 0x123 0x6 0 ++ answered 8 1 0 ++ answered 8 0x96 1 ++ 3 ∷ []

-- a byte with a wrong P, which comes again
abbrev comes_again : List ℕ
comes_again = header 0x525 0x123 0xF 0 ++ answered 8 1 0 ++ spoilt 8 0x42 ++ 1 ∷ answered 8 0x42 0 ++ 3 ∷ []

-- two bytes on their way to a master that gives NAK to the first at its first attempt
abbrev two_sent : List ℕ
two_sent =
    header 0x525 0x123 0x7 0 ++ answered 8 2 0 ++ answered 8 0x11 1 ++ answered 8 0x11 0 ++ answered 8 0x22 0
    ++ 3 ∷ []

-- frames that break off in each field, the last one in its data; what is offered stays
abbrev offer_outlasts : List ℕ
offer_outlasts =
    two_offered ++ write 0x0 0x10 ∷ 2 ∷ 3 ∷ 2 ∷ 1 ∷ 3 ∷ from525 ++ 3 ∷ from525 ++ answered 12 0x123 0 ++ 3 ∷ header
    0x525 0x123 0xF 0 ++ 3 ∷ broken_off 0x525 0x123 0xF

-- a desk reads the status with 0H or 6H, and writes with FH in the next frame; what the unit drives then
abbrev asks_then_writes : ℕ → ℕ → ℕ → List ℕ
asks_then_writes control status a = exchange 0x525 0x123 control 1 (status ∷ []) ++ header 0x525 0x123 0xF a ++ 3 ∷ []

abbrev tells_then_gives : ℕ → ℕ → List ℕ
tells_then_gives status a = tells status ++ as_slave (heard 4 a)

-- ---- the stories

-- what some words leave
unfoldable pub left_stories : List Case
left_stories =
    -- a master's request, from its start code to a normal end
    (master_starts 0x8F leaves as_reset ▹ rcr 0x0F ▹ flg 0x40 ▹ tbf (0x02 ∷ 0xAA ∷ []))
    ∷ (master_starts 0x83 leaves as_reset ▹ flg 0x40 ▹ tbf (0x02 ∷ 0xAA ∷ []))
    ∷ (master_write leaves as_reset ▹ rcr 0x2F)
    ∷ (master_read leaves as_reset ▹ rcr 0x6F ▹ rdr1 4 ▹ tbf (0x02 ∷ 0xAA ∷ [])
    ▹ rbf (0x45 ∷ 0x63 ∷ 0x01 ∷ 0x77 ∷ []))
    ∷ (master_read ++ write 0x1 0x08 ∷ [] leaves as_reset ▹ rcr 0x6F ▹ flg 0x40 ▹ tbf (0x02 ∷ 0xAA ∷ [])
    ▹ rbf (0x45 ∷ 0x63 ∷ 0x01 ∷ 0x77 ∷ []))
    -- TBF that runs empty, of a master and of a slave
    ∷ (master_wants ++ answered 8 0xAA 0 leaves as_reset ▹ rcr 0x3F)
    ∷ (wanted leaves as_reset ▹ rcr 0xF1 ▹ flg 0x20)
    ∷ (ran_empty leaves as_reset ▹ rcr 0xF3 ▹ lock 0x1525)
    ∷ (ran_empty7 leaves as_reset ▹ rcr 0xF3)
    -- contests lost
    ∷ (last_loss leaves as_reset ▹ rcr 0x36 ▹ rdr2 4 ▹ rbf (0x02 ∷ 0x3F ∷ 0x01 ∷ 0x42 ∷ []))
    ∷ (lost_twice leaves as_reset ▹ rcr 0x36 ▹ rdr2 4 ▹ rbf (0x02 ∷ 0x3F ∷ 0x01 ∷ 0x42 ∷ []))
    ∷ (lost_anew leaves as_reset ▹ rcr 0x36 ▹ flg 0x40 ▹ rdr2 4 ▹ tbf (0x01 ∷ 0xAA ∷ [])
    ▹ rbf (0x02 ∷ 0x3F ∷ 0x01 ∷ 0x42 ∷ []))
    ∷ (contender 0xFF ++ lost 7 leaves as_reset ▹ flg 0x50 ▹ tbf (0x01 ∷ 0xAA ∷ []))
    ∷ (contender 0xFF ++ lost 8 leaves as_reset ▹ rcr 0x3F ▹ flg 0x10)
    ∷ (contender 0xAF ++ lost 3 leaves as_reset ▹ rcr 0x3F ▹ flg 0x10)
    -- receptions: "at length accepted", of a slave and of a master; what is offered stays
    ∷ (set_up ++ write 0x0 0x10 ∷ header 0x525 0x123 0xF 0 ++ answered 8 1 0
    leaves as_reset ▹ rcr 0xF4 ▹ flg 0x10 ▹ rdr2 3 ▹ rbf (0x52 ∷ 0x5F ∷ 0x01 ∷ []))
    ∷ (asks_to_read ++ header 0x123 0x456 0x3 0 ++ answered 8 1 0
    leaves as_reset ▹ rcr 0x4F ▹ flg 0x40 ▹ rdr1 3 ▹ tbf (0x02 ∷ 0xAA ∷ []) ▹ rbf (0x45 ∷ 0x63 ∷ 0x01 ∷ []))
    ∷ (two_offered ++ write 0x0 0x10 ∷ exchange 0x525 0x123 0xF 1 (0x42 ∷ [])
    leaves as_reset ▹ rcr 0xF6 ▹ flg 0x20 ▹ rdr2 4 ▹ tbf (0x02 ∷ 0x11 ∷ 0x22 ∷ [])
    ▹ rbf (0x52 ∷ 0x5F ∷ 0x01 ∷ 0x42 ∷ []))
    ∷ (offer_outlasts leaves as_reset ▹ rcr 0xF7 ▹ flg 0x20 ▹ rdr2 4 ▹ tbf (0x02 ∷ 0x11 ∷ 0x22 ∷ [])
    ▹ rbf (0x52 ∷ 0x5F ∷ 0x02 ∷ 0x99 ∷ []))
    ∷ (third_frame leaves as_reset ▹ rcr 0xF6 ▹ rdr2 5 ▹ rbf (0x52 ∷ 0x5F ∷ 0x02 ∷ 0xA7 ∷ 0x5B ∷ []))
    ∷ (length256 leaves as_reset ▹ rcr 0xF7 ▹ rdr2 4 ▹ rbf (0x52 ∷ 0x5F ∷ 0x00 ∷ 0x42 ∷ []))
    ∷ (too_long leaves as_reset ▹ rcr 0xF7 ▹ lock 0x1525 ▹ rdr2 19
    ▹ rbf (0x52 ∷ 0x5B ∷ 0x11 ∷ times 16 (0x35 ∷ [])))
    -- cut in its length, a reception has not begun
    ∷ (set_up ++ write 0x0 0x10 ∷ header 0x525 0x123 0xF 0 ++ 0 ∷ 0 ∷ 3 ∷ [] leaves as_reset ▹ flg 0x10)
    -- broadcasts: "bad parity in any field ends it", with P
    ∷ (group leaves as_reset ▹ rcr 0xF8 ▹ flg 0x10 ▹ rdr2 3 ▹ rbf (0x52 ∷ 0x5F ∷ 0x01 ∷ []))
    ∷ (group ++ answered 8 0x77 1 leaves as_reset ▹ rcr 0xFA ▹ rdr2 4 ▹ rbf (0x52 ∷ 0x5F ∷ 0x01 ∷ 0x77 ∷ []))
    -- the lock
    ∷ (lock_taken leaves as_reset ▹ rcr 0xF7 ▹ lock 0x1525 ▹ rdr2 4 ▹ rbf (0x52 ∷ 0x5B ∷ 0x02 ∷ 0x99 ∷ []))
    ∷ (lock_completed leaves as_reset ▹ rcr 0xF6 ▹ rdr2 4 ▹ rbf (0x52 ∷ 0x5B ∷ 0x01 ∷ 0x98 ∷ []))
    ∷ (stranger6 leaves as_reset ▹ rcr 0xF7 ▹ lock 0x1525 ▹ rdr2 4 ▹ rbf (0x52 ∷ 0x5B ∷ 0x02 ∷ 0x99 ∷ []))
    ∷ (holder6 leaves as_reset ▹ rcr 0xF7 ▹ rdr2 4 ▹ rbf (0x52 ∷ 0x5B ∷ 0x02 ∷ 0x99 ∷ []))
    ∷ (unheard6 leaves as_reset ▹ rcr 0xF7 ▹ lock 0x1525 ▹ rdr2 4 ▹ rbf (0x52 ∷ 0x5B ∷ 0x02 ∷ 0x99 ∷ []))
    ∷ (outlasted_broken leaves as_reset ▹ rcr 0xF7 ▹ lock 0x1525 ▹ rdr2 4 ▹ rbf (0x52 ∷ 0x5F ∷ 0x02 ∷ 0x99 ∷ []))
    -- "all bytes ACKed unlocks": of AH and of 3H too
    ∷ (lock_taken ++ read_out ++ exchange 0x525 0x123 0xA 1 (0x98 ∷ [])
    leaves as_reset ▹ rcr 0xF6 ▹ rdr2 4 ▹ rbf (0x52 ∷ 0x5A ∷ 0x01 ∷ 0x98 ∷ []))
    ∷ (lock_taken ++ read_out ++ one_offered ++ exchange 0x525 0x123 0x3 1 (0x11 ∷ [])
    leaves as_reset ▹ rcr 0xF2 ▹ flg 0x10 ▹ rdr2 4)
    ∷ []

-- answers word by word, with what is driven
unfoldable pub driven_stories : List Case
driven_stories =
    -- "A is 0 for ACK"; "bad parity is NAK at .. data"
    (answering (set_up ++ write 0x0 0x10 ∷ []) comes_again
    gives taken (as_slave (heard 4 0 ++ heard 8 0 ++ heard 8 1 ++ heard 8 0)))
    -- "only with SLRE set and RBF empty"
    ∷ (answering set_up (header 0x525 0x123 0xF 1 ++ 3 ∷ []) gives taken (as_slave (heard 4 1)))
    ∷ (answering (reception ++ write 0x0 0x10 ∷ []) (header 0x525 0x123 0xF 1 ++ 3 ∷ [])
    gives taken (as_slave (heard 4 1)))
    -- "3H, 7H: .. length and bytes from TBF"; "NAK after data repeats the byte"
    ∷ (answering two_offered two_sent
    gives taken (as_slave (heard 4 0 ++ answered 8 2 1 ++ answered 8 0x11 1 ++ answered 8 0x11 1 ++ answered 8 0x22 1)))
    ∷ (two_offered ++ two_sent leaves as_reset ▹ rcr 0xF2)
    -- "slave sending at control ACK"; the last byte leaves TBF, and none is wanted
    ∷ (two_offered ++ header 0x525 0x123 0x7 0 leaves as_reset ▹ rcr 0xF0 ▹ flg 0x20 ▹ tbf (0x11 ∷ 0x22 ∷ []))
    ∷ (two_offered ++ header 0x525 0x123 0x7 0 ++ answered 8 2 0 ++ answered 8 0x11 0
    leaves as_reset ▹ rcr 0xF0 ▹ flg 0x20)
    -- "With MARQ set and idle as the latest slot, the unit drives start"; "A refusal changes no state"
    ∷ (answering (asks_to_write 0x8F ++ turned_down) (3 ∷ exchange 0x123 0x456 0xF 2 (0xAA ∷ 0xBB ∷ []))
    gives taken (as_master 1 0xF (answered 8 2 1 ++ answered 8 0xAA 1 ++ answered 8 0xBB 1)))
    ∷ (answering asks_to_read (3 ∷ exchange 0x123 0x456 0x3 1 (0x77 ∷ []))
    gives taken (as_master 1 0x3 (heard 8 0 ++ heard 8 0)))
    -- "A judgement is made with the P slot's word, from the state then": 0FH before P
    ∷ (answering (set_up ++ write 0x0 0x10 ∷ from525 ++ answered 12 0x123 0 ++ 1 ∷ 1 ∷ 1 ∷ 1 ∷ write 0x1 0x0F ∷ [])
    (0 ∷ 1 ∷ []) gives taken (1 ∷ 1 ∷ []))
    -- "except in a broadcast, where A is ignored"
    ∷ (answering (asks_to_write 0x0F) (3 ∷ to_all 0x123 0x456 0xF 2 ++ answered 8 0xAA 1 ++ answered 8 0xBB 1 ++ 3 ∷ [])
    gives taken (as_master 0 0xF (answered 8 2 1 ++ answered 8 0xAA 1 ++ answered 8 0xBB 1)))
    ∷ (asks_to_write 0x0F ++ to_all 0x123 0x456 0xF 2 ++ answered 8 0xAA 1 ++ answered 8 0xBB 1
    leaves as_reset ▹ rcr 0x2F)
    -- "the unit goes on as a receiver of that frame", and tries again after it
    ∷ (answering (contender 0x9F) (3 ∷ exchange 0x023 0x123 0xF 1 (0x42 ∷ []))
    gives taken
    (2 ∷ 1 ∷ 0 ∷ 0 ∷ 0 ∷ 1 ∷ released 9 ++ heard 12 0 ++ heard 4 0 ++ heard 8 0 ++ heard 8 0 ++ 1 ∷ 2 ∷ []))
    -- "A start slot always begins a frame", from the state that the end of the one before left
    ∷ (answering (asks_to_write 0x0F) (3 ∷ 2 ∷ 2 ∷ []) gives taken (2 ∷ 0 ∷ 1 ∷ []))
    -- a locked unit drives start too
    ∷ (answering (lock_taken ++ read_out ++ to456 0x8F ++ filled 2 ++ write 0x1 0x08 ∷ []) (3 ∷ []) gives taken (2 ∷ []))
    -- "NAK after slave address .. aborts"; so do two starts
    ∷ (asks_to_write 0x8F ++ 2 ∷ 1 ∷ field 12 0x123 ++ answered 12 0x456 1 leaves as_reset ▹ rcr 0x3F)
    ∷ (asks_to_write 0x83 ++ 2 ∷ 2 ∷ [] leaves as_reset ▹ rcr 0x7F ▹ tbf (0x02 ∷ 0xAA ∷ 0xBB ∷ []))
    -- a request made after the start slot outlives that frame; one that holds back drives start once RBF is empty
    ∷ (answering (set_up ++ to456 0x8F ++ filled 2 ++ 2 ∷ write 0x1 0x08 ∷ 1 ∷ []) (3 ∷ []) gives taken (2 ∷ []))
    ∷ (answering held_back (3 ∷ read 0xE ∷ read 0xE ∷ read 0xE ∷ read 0xE ∷ read 0xE ∷ [])
    gives taken (1 ∷ []) ++ values (0x52 ∷ 0x5F ∷ 0x02 ∷ 0xA5 ∷ []) ++ 0xA000_025A ∷ [])
    -- "6H unlocks when its byte is ACKed"; "Unlocked, 4H is NAK and 5H gives 00H"
    ∷ (answering (lock_taken ++ read_out)
    (exchange 0x525 0x123 0x6 1 (0x94 ∷ []) ++ exchange 0x111 0x123 0x6 1 (0x90 ∷ [])
    ++ exchange 0x111 0x123 0x5 1 (0x00 ∷ []) ++ header 0x111 0x123 0x4 1 ++ 3 ∷ [])
    gives taken (tells 0x94 ++ tells 0x90 ++ tells 0x00 ++ as_slave (heard 4 1)))
    ∷ (answering two_offered (exchange 0x525 0x123 0x0 1 (0x93 ∷ [])) gives taken (tells 0x93))
    ∷ (two_offered ++ exchange 0x525 0x123 0x0 1 (0x93 ∷ [])
    leaves as_reset ▹ flg 0x20 ▹ tbf (0x02 ∷ 0x11 ∷ 0x22 ∷ []))
    -- "bit 1 is 0 when SLRE is set and RBF is empty, and otherwise 1": the write that follows is taken, or gets NAK
    ∷ (answering (set_up ++ write 0x0 0x10 ∷ []) (asks_then_writes 0x0 0x90 0 ++ asks_then_writes 0x6 0x90 0)
    gives taken (tells_then_gives 0x90 0 ++ tells_then_gives 0x90 0))
    ∷ (answering set_up (asks_then_writes 0x0 0x92 1 ++ asks_then_writes 0x6 0x92 1)
    gives taken (tells_then_gives 0x92 1 ++ tells_then_gives 0x92 1))
    ∷ (answering reception (asks_then_writes 0x0 0x92 1) gives taken (tells_then_gives 0x92 1))
    ∷ (answering (reception ++ write 0x0 0x10 ∷ []) (asks_then_writes 0x0 0x92 1) gives taken (tells_then_gives 0x92 1))
    -- the same for the holder of the lock, with slave data offered in the end
    ∷ (answering (lock_taken ++ write 0x0 0x10 ∷ []) (asks_then_writes 0x0 0x96 1) gives taken (tells_then_gives 0x96 1))
    ∷ (answering (lock_taken ++ read_out ++ one_offered) (asks_then_writes 0x0 0x95 0) gives taken (tells_then_gives 0x95 0))
    -- 6H that breaks off leaves SLRE
    ∷ (answering (set_up ++ write 0x0 0x10 ∷ from525 ++ asked_after 0x6 [] ++ answered 8 0x90 1 ++ 3 ∷ [])
    (header 0x525 0x123 0xF 0 ++ 3 ∷ []) gives taken (as_slave (heard 4 0)))
    -- "UAR1 (.. mode)": in mode 1 a 17th attempt is made
    ∷ (answering (write 0x2 0x33 ∷ write 0x3 0x12 ∷ from525 ++ status_asked ++ unheard 16) (answered 8 0x92 0)
    gives taken (0 ∷ 0 ∷ 1 ∷ 0 ∷ 0 ∷ 1 ∷ 0 ∷ 1 ∷ 1 ∷ 1 ∷ []))
    -- the same of a master: the 17th and 18th are made
    ∷ (tries_on 0x33 leaves as_reset ▹ rcr 0x2F)
    -- "UAR1 (own address low 4 bits ..)": written last, it keeps the high 8; UAR2 keeps the low 4 alone
    ∷ (answering (write 0x3 0x12 ∷ write 0x2 0x32 ∷ from525) (answered 12 0x123 0)
    gives taken (released 12 ++ 0 ∷ 1 ∷ []))
    ∷ (answering (set_up ++ write 0x2 0x62 ∷ write 0x3 0x45 ∷ from525) (answered 12 0x456 0)
    gives taken (released 12 ++ 0 ∷ 1 ∷ []))
    ∷ []

pub story_cases : all_given (left_stories ++ driven_stories) ≡ true
unfolding all_given left_stories driven_stories all_rules
story_cases = refl
