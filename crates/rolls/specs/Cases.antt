-- Rolls that are computed: what ticket 10 says of joining, leaving and who is shown, at the ends of each rule, and the
-- bytes.
use Rattle.std.specs.Prelude.{true, List, [], ◌∷◌, ◌++◌, map, ◌≡◌, refl, ℕ, drop, length, replicate, take}
use Rattle.line.specs.Cases.{Case, ◌gives◌, all_given}
use Rattle.line.specs.Parity.{level_of}
use Rattle.line.specs.Places.{first_place, placed}
use Rattle.contenders.specs.Cases.{broadcast, ordinary, row}
use Rattle.contenders.specs.Contest.{alike, in_range, loss_of, losses_of, number_of, remaining, settled}
use Rattle.contenders.specs.declared.Contender.{Contender}
use Rattle.rolls.specs.Kept.{asked, bytes_after, bytes_of, join_end_in, leave_end_in, number_for, pairs}
use Rattle.rolls.specs.Kept.{roll_in, size_end_in, word_after, word_for}
use Rattle.rolls.specs.Roll.{begin, changed, done, join, join_end, joined, leave, leave_end, left, look, roll_of}
use Rattle.rolls.specs.Roll.{shown_of}

-- who is shown, as a host is told
abbrev told : List Contender → ℕ
told roll = word_for (shown_of roll)

abbrev three : List Contender
three = ordinary 0x100 ∷ broadcast 0xFFF ∷ ordinary 0x0FF ∷ []

-- "the shown winner, as broadcast bit and address"; "an empty roll shows none"
abbrev shown_cases : List Case
shown_cases =
    (told [] ∷ told (ordinary 0 ∷ []) ∷ told (broadcast 0 ∷ []) ∷ told (ordinary 0xFFF ∷ []) ∷ []
    gives 0 ∷ 0x9000 ∷ 0x8000 ∷ 0x9FFF ∷ [])
    ∷ (told (ordinary 0x100 ∷ ordinary 0x0FF ∷ []) ∷ told (ordinary 0x0FF ∷ ordinary 0x100 ∷ []) ∷ []
    gives 0x90FF ∷ 0x90FF ∷ [])
    ∷ (told (ordinary 0x000 ∷ broadcast 0xFFF ∷ []) ∷ told three ∷ [] gives 0x8FFF ∷ 0x8FFF ∷ [])
    -- a roll that nobody here made
    ∷ (told (ordinary 6 ∷ ordinary 5 ∷ ordinary 5 ∷ []) ∷ [] gives 0x9005 ∷ [])
    ∷ []

-- the numbers of a roll's requests
abbrev of : List Contender → List ℕ
of roll = map number_of roll

-- in the order in which they joined; the first, the one between and the last of three leave; calls that are refused
-- and looking change nothing
abbrev roll_cases : List Case
roll_cases =
    (of (roll_of (join (ordinary 0x100) ∷ join (broadcast 0xFFF) ∷ join (ordinary 0x0FF) ∷ []))
    gives 0x1100 ∷ 0x0FFF ∷ 0x10FF ∷ [])
    ∷ (of (left (ordinary 0x100) three) gives 0x0FFF ∷ 0x10FF ∷ [])
    ∷ (of (left (broadcast 0xFFF) three) gives 0x1100 ∷ 0x10FF ∷ [])
    ∷ (of (left (ordinary 0x0FF) three) gives 0x1100 ∷ 0x0FFF ∷ [])
    ∷ (of (left (ordinary 0xFFF) three) gives of three)
    ∷ (of (joined (ordinary 0x0FF) three) gives of three)
    ∷ (of (joined (ordinary 0x1000) three) gives of three)
    ∷ (of (changed three look) gives of three)
    ∷ (of (changed three begin) gives [])
    ∷ (of (roll_of (join (ordinary 5) ∷ join (ordinary 5) ∷ join (ordinary 0x1000) ∷ leave (ordinary 6) ∷ []))
    gives 0x1005 ∷ [])
    ∷ (of (roll_of (join (ordinary 5) ∷ leave (ordinary 5) ∷ look ∷ join (ordinary 6) ∷ [])) gives 0x1006 ∷ [])
    -- of two alike, which no calls make, the first leaves
    ∷ (of (left (ordinary 5) (ordinary 5 ∷ ordinary 6 ∷ ordinary 5 ∷ [])) gives 0x1006 ∷ 0x1005 ∷ [])
    ∷ []

-- fifty join, and twice one leaves and another joins
abbrev turned : List Contender
turned =
    roll_of
    (map join (row 50 0) ++ leave (ordinary 7) ∷ join (ordinary 50) ∷ leave (ordinary 50) ∷ join (ordinary 51) ∷ [])

abbrev joins : Contender → List Contender → ℕ
joins c roll = number_for (join_end c roll)

abbrev leaves : Contender → List Contender → ℕ
leaves c roll = number_for (leave_end c roll)

-- "21, joining a roll of 50; 22, joining with a bit and address already there, checked before 21; 23, leaving while not
-- there. A request out of range is number 14, ahead of these."
abbrev answer_cases : List Case
answer_cases =
    (joins (ordinary 0xFFF) (row 49 0) ∷ joins (ordinary 0xFFF) (row 50 0) ∷ joins (ordinary 49) (row 50 0) ∷ []
    gives 0 ∷ 21 ∷ 22 ∷ [])
    ∷ (joins (ordinary 0) (row 1 0) ∷ joins (broadcast 0) (row 1 0) ∷ joins (ordinary 1) (row 1 0) ∷ []
    gives 22 ∷ 0 ∷ 0 ∷ [])
    ∷ (joins (asked 2 0) (row 50 0) ∷ joins (ordinary 0x1000) (row 50 0) ∷ joins (asked 2 0) [] ∷ []
    gives 14 ∷ 14 ∷ 14 ∷ [])
    ∷ (leaves (ordinary 0) (row 1 0) ∷ leaves (broadcast 0) (row 1 0) ∷ leaves (ordinary 0) [] ∷ []
    gives 0 ∷ 23 ∷ 23 ∷ [])
    ∷ (leaves (ordinary 49) (row 50 0) ∷ leaves (ordinary 50) (row 50 0) ∷ leaves (asked 2 0) (row 1 0) ∷ []
    gives 0 ∷ 23 ∷ 14 ∷ [])
    ∷ (leaves (ordinary 0x1000) [] ∷ [] gives 14 ∷ [])
    -- "Room given up by one that left is used again"
    ∷ (joins (ordinary 50) (left (ordinary 7) (row 50 0)) ∷ joins (ordinary 7) (left (ordinary 7) (row 50 0)) ∷ []
    gives 0 ∷ 0 ∷ [])
    ∷ (length turned ∷ joins (ordinary 52) turned ∷ joins (ordinary 51) turned ∷ [] gives 50 ∷ 21 ∷ 22 ∷ [])
    ∷ []

-- so many bytes of a roll that holds two requests: the count, the requests, and what stands past them
abbrev bytes : ℕ → ℕ → ℕ → ℕ → List ℕ
bytes count high past size = take size (count ∷ 0x00 ∷ high ∷ 0xFF ∷ 0x0F ∷ replicate 97 past)

-- the first seven bytes that a call leaves, then how many there are
abbrev written : List ℕ → List ℕ
written l = take 7 l ++ length l ∷ []

-- a request is its number's two bytes, the low one first; past the last stands 0, also where other bytes stood; of a
-- request 13 bits count, and a count over 50 is 50
abbrev byte_cases : List Case
byte_cases =
    (written (bytes_of three) gives 3 ∷ 0x00 ∷ 0x11 ∷ 0xFF ∷ 0x0F ∷ 0xFF ∷ 0x10 ∷ 101 ∷ [])
    ∷ (of (roll_in (bytes 2 0x11 0 101)) gives 0x1100 ∷ 0x0FFF ∷ [])
    ∷ (of (roll_in (bytes 2 0xF1 0xFF 101)) gives 0x1100 ∷ 0x0FFF ∷ [])
    ∷ (length (roll_in (bytes 50 0x11 0 101)) ∷ length (roll_in (bytes 51 0x11 0 101)) ∷ [] gives 50 ∷ 50 ∷ [])
    ∷ (length (roll_in (bytes 255 0x11 0 101)) ∷ [] gives 50 ∷ [])
    ∷ (written (bytes_after (bytes 2 0xF1 0xFF 101) (join (ordinary 0x0FF)))
    gives 3 ∷ 0x00 ∷ 0x11 ∷ 0xFF ∷ 0x0F ∷ 0xFF ∷ 0x10 ∷ 101 ∷ [])
    ∷ (written (drop 94 (bytes_after (bytes 2 0xF1 0xFF 101) (join (ordinary 0x0FF))))
    gives 0 ∷ 0 ∷ 0 ∷ 0 ∷ 0 ∷ 0 ∷ 0 ∷ 7 ∷ [])
    ∷ (written (bytes_after (bytes 2 0xF1 0xFF 101) (leave (ordinary 0x100)))
    gives 1 ∷ 0xFF ∷ 0x0F ∷ 0 ∷ 0 ∷ 0 ∷ 0 ∷ 101 ∷ [])
    ∷ (written (bytes_after (bytes 2 0xF1 0xFF 101) begin) gives 0 ∷ 0 ∷ 0 ∷ 0 ∷ 0 ∷ 0 ∷ 0 ∷ 101 ∷ [])
    -- what is refused, and looking, writes nothing
    ∷ (bytes_after (bytes 2 0xF1 0xFF 101) (join (ordinary 0x100)) gives bytes 2 0xF1 0xFF 101)
    ∷ (bytes_after (bytes 2 0xF1 0xFF 101) (leave (ordinary 0x101)) gives bytes 2 0xF1 0xFF 101)
    ∷ (bytes_after (bytes 2 0xF1 0xFF 101) (join (ordinary 0x1000)) gives bytes 2 0xF1 0xFF 101)
    ∷ (bytes_after (bytes 2 0xF1 0xFF 101) (leave (asked 2 0)) gives bytes 2 0xF1 0xFF 101)
    ∷ (bytes_after (bytes 51 0xF1 0xFF 101) (join (ordinary 0x0FF)) gives bytes 51 0xF1 0xFF 101)
    ∷ (bytes_after (bytes 2 0xF1 0xFF 100) (join (ordinary 0x0FF)) gives bytes 2 0xF1 0xFF 100)
    ∷ (bytes_after (bytes 2 0xF1 0xFF 102) (leave (ordinary 0x100)) gives bytes 2 0xF1 0xFF 102)
    ∷ (bytes_after (bytes 2 0xF1 0xFF 101) look gives bytes 2 0xF1 0xFF 101)
    ∷ (bytes_after (bytes 2 0xF1 0xFF 100) begin gives bytes 2 0xF1 0xFF 100)
    ∷ []

-- how a call over bytes of a size ends
abbrev ends : Contender → ℕ → List ℕ
ends c size =
    number_for (join_end_in c (bytes 2 0x11 0 size)) ∷ number_for (leave_end_in c (bytes 2 0x11 0 size))
    ∷ number_for (size_end_in (bytes 2 0x11 0 size)) ∷ []

-- .. over the bytes of a roll
abbrev ended : Contender → List Contender → List ℕ
ended c roll = number_for (join_end_in c (bytes_of roll)) ∷ number_for (leave_end_in c (bytes_of roll)) ∷ []

-- looking, where 7 was lent
abbrev looks : ℕ → ℕ → List ℕ
looks count size =
    number_for (size_end_in (bytes count 0x11 0 size)) ∷ word_after (bytes count 0x11 0 size) 7 ∷ []

-- 14, then 100, then the others
abbrev size_cases : List Case
size_cases =
    (ends (ordinary 0x100) 101 gives 22 ∷ 0 ∷ 0 ∷ [])
    ∷ (ends (ordinary 0x101) 101 gives 0 ∷ 23 ∷ 0 ∷ [])
    ∷ (ends (ordinary 0x100) 100 gives 100 ∷ 100 ∷ 100 ∷ [])
    ∷ (ends (ordinary 0x101) 0 gives 100 ∷ 100 ∷ 100 ∷ [])
    ∷ (ends (ordinary 0x100) 102 gives 100 ∷ 100 ∷ 100 ∷ [])
    ∷ (ends (ordinary 0x1000) 100 gives 14 ∷ 14 ∷ 100 ∷ [])
    ∷ (ended (ordinary 0xFFF) (row 50 0) gives 21 ∷ 23 ∷ [])
    ∷ (ended (ordinary 49) (row 50 0) gives 22 ∷ 0 ∷ [])
    ∷ (word_after (bytes_of three) 7 ∷ [] gives 0x8FFF ∷ [])
    ∷ (looks 2 101 gives 0 ∷ 0x8FFF ∷ [])
    ∷ (looks 1 101 gives 0 ∷ 0x9100 ∷ [])
    ∷ (looks 0 101 gives 0 ∷ 0 ∷ [])
    ∷ (looks 2 100 gives 100 ∷ 7 ∷ [])
    ∷ []

pub roll-cases : all_given (shown_cases ++ roll_cases ++ answer_cases ++ byte_cases ++ size_cases) ≡ true
unfolding all_given shown_of word_for word_after number_for losses_of loss_of settled remaining level_of number_of first_place
    in_range alike join_end leave_end joined left done bytes_of pairs roll_in placed size_end_in join_end_in leave_end_in
roll-cases = refl
