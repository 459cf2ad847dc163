-- Ticket 10: "Keep a roll of up to 50 requests, begun empty; they join when made and leave when served or withdrawn,
-- and nothing else changes it. After each change the shown winner, as broadcast bit and address, equals that of the
-- contest run afresh over the roll, and an empty roll shows none."
use Rattle.std.specs.Prelude.{Bool, true, false, ℕ, suc, leb, ltb, drop, get_or, length, take}
use mathlib.Core.List.{List, [], ◌∷◌, ◌++◌, foldl}
use Rattle.line.specs.Choice.{pick}
use Rattle.line.specs.Numbers.{most_contenders}
use Rattle.line.specs.Places.{first_place}
use Rattle.contenders.specs.Contest.{alike, nobody, out_of_range, winner_of}
use Rattle.contenders.specs.declared.Contender.{Contender}

-- ---- Who is on a roll: requests are contenders, in the order in which they joined

-- the first place of a bit and address, the length where they are not there
abbrev pub place_of : Contender → List Contender → ℕ
place_of c roll = first_place (alike c) roll

-- "with a bit and address already there"
abbrev pub there : Contender → List Contender → Bool
there c roll = ltb (place_of c roll) (length roll)

-- without the request at a place; the others close up
abbrev pub without : {A : Type 0} → ℕ → List A → List A
without place l = take place l ++ drop (suc place) l

-- ---- How a call ends

-- done, or refused
pub data Change : Type 0 where
  Done : Change
  OutOfRange : Change
  BadSize : Change
  Alike : Change
  Full : Change
  Absent : Change

-- "21, joining a roll of 50; 22, joining with a bit and address already there, checked before 21"; "A request out of
-- range is number 14, ahead of these."
unfoldable pub join_end : Contender → List Contender → Change
join_end c roll =
    pick (out_of_range c) OutOfRange (pick (there c roll) Alike (pick (leb most_contenders (length roll)) Full Done))

-- "23, leaving while not there", and 14 ahead of it
unfoldable pub leave_end : Contender → List Contender → Change
leave_end c roll = pick (out_of_range c) OutOfRange (pick (there c roll) Done Absent)

-- ---- The roll afterwards: what is refused changes nothing

unfoldable pub done : Change → Bool
done Done = true
done OutOfRange = false
done BadSize = false
done Alike = false
done Full = false
done Absent = false

unfoldable pub joined : Contender → List Contender → List Contender
joined c roll = pick (done (join_end c roll)) (roll ++ c ∷ []) roll

unfoldable pub left : Contender → List Contender → List Contender
left c roll = pick (done (leave_end c roll)) (without (place_of c roll) roll) roll

-- ---- Who is shown

-- nobody, or "the shown winner, as broadcast bit and address"
pub data Shown : Type 0 where
  Nobody : Shown
  Next : Contender → Shown

-- "an empty roll shows none"; else who loses in no slot of the contest, the first of them where a roll that nobody here
-- made has two alike
unfoldable pub shown_of : List Contender → Shown
shown_of [] = Nobody
shown_of (c ∷ cs) = Next (get_or (c ∷ cs) (winner_of (c ∷ cs)) nobody)

-- ---- Calls, one after the other

pub data Call : Type 0 where
  begin : Call
  join : Contender → Call
  leave : Contender → Call
  look : Call

-- the roll after a call
abbrev pub changed : List Contender → Call → List Contender
changed roll begin = []
changed roll (join c) = joined c roll
changed roll (leave c) = left c roll
changed roll look = roll

-- the roll that calls make of one that is "begun empty"
abbrev pub roll_of : List Call → List Contender
roll_of calls = foldl changed [] calls
