-- What a display relies on: of every roll, how a call ends and what it leaves, told in the words of ticket 10; of all
-- bytes, that a call on them is one on their roll; of every list of calls, who is shown, and that the bytes keep it.
use mathlib.Core.List.{List, [], ◌∷◌, ◌++◌, foldl}
use Rattle.std.specs.Prelude.{Ok, ◌≡◌, ℕ, ◌/◌, ◌%◌, ◌<◌, ◌≤◌, get_or, length}
use Rattle.line.specs.Numbers.{most_contenders, roll_bytes}
use Rattle.contenders.specs.Contest.{OccursAgain, Ranged, Wins, contest_of, nobody}
use Rattle.contenders.specs.declared.Contender.{Contender}
use Rattle.rolls.specs.Kept.{bytes_after, bytes_of, join_end_in, leave_end_in, roll_in, size_end_in, word_after, word_for}
use Rattle.rolls.specs.Roll.{Absent, Alike, BadSize, Call, Done, Full, Next, Nobody, OutOfRange, Shown, begin}
use Rattle.rolls.specs.Roll.{join, join_end, joined, leave, leave_end, left, roll_of, shown_of}

-- a request stands on a roll, between those that joined before and after it
pub record On (c : Contender) (roll : List Contender) : Type 0 where
  pub before : List Contender
  pub after : List Contender
  pub is : roll ≡ before ++ c ∷ after

-- ---- Joining and leaving, of every roll

pub record RightlyJoins (c : Contender) (roll : List Contender) : Type 0 where
  pub out_of_range : (Ranged c → ⊥) → join_end c roll ≡ OutOfRange
  pub alike : Ranged c → On c roll → join_end c roll ≡ Alike
  pub full : Ranged c → (On c roll → ⊥) → most_contenders ≤ length roll → join_end c roll ≡ Full
  pub taken : Ranged c → (On c roll → ⊥) → length roll < most_contenders → join_end c roll ≡ Done
  pub last : join_end c roll ≡ Done → joined c roll ≡ roll ++ c ∷ []
  pub unchanged : (join_end c roll ≡ Done → ⊥) → joined c roll ≡ roll

pub record RightlyLeaves (c : Contender) (roll : List Contender) : Type 0 where
  pub out_of_range : (Ranged c → ⊥) → leave_end c roll ≡ OutOfRange
  pub absent : Ranged c → (On c roll → ⊥) → leave_end c roll ≡ Absent
  pub taken : Ranged c → On c roll → leave_end c roll ≡ Done
  -- the others stay in their order: of two alike, which no calls make, the first goes
  pub closed_up : (before after : List Contender) → roll ≡ before ++ c ∷ after → (On c before → ⊥) → Ranged c
      → left c roll ≡ before ++ after
  pub unchanged : (leave_end c roll ≡ Done → ⊥) → left c roll ≡ roll

-- ---- The same over bytes, of all that there are

pub record InBytes (bytes : List ℕ) : Type 0 where
  -- of a roll's size: as over the roll that they are
  pub begins : length bytes ≡ roll_bytes → size_end_in bytes ≡ Done
  pub joins : length bytes ≡ roll_bytes → (c : Contender) → join_end_in c bytes ≡ join_end c (roll_in bytes)
  pub leaves : length bytes ≡ roll_bytes → (c : Contender) → leave_end_in c bytes ≡ leave_end c (roll_in bytes)
  pub told : length bytes ≡ roll_bytes → (word : ℕ) → word_after bytes word ≡ word_for (shown_of (roll_in bytes))
  -- of another size: number 14 is still ahead
  pub out_of_range : (c : Contender) → (Ranged c → ⊥)
      → (join_end_in c bytes ≡ OutOfRange) × (leave_end_in c bytes ≡ OutOfRange)
  pub other-size : (length bytes ≡ roll_bytes → ⊥) → (size_end_in bytes ≡ BadSize)
      × ((c : Contender) → Ranged c → (join_end_in c bytes ≡ BadSize) × (leave_end_in c bytes ≡ BadSize))
  -- "A refusal writes nothing"
  pub begin_refused : (size_end_in bytes ≡ Done → ⊥) → bytes_after bytes begin ≡ bytes
  pub join_refused : (c : Contender) → (join_end_in c bytes ≡ Done → ⊥) → bytes_after bytes (join c) ≡ bytes
  pub leave_refused : (c : Contender) → (leave_end_in c bytes ≡ Done → ⊥) → bytes_after bytes (leave c) ≡ bytes
  pub untold : (length bytes ≡ roll_bytes → ⊥) → (word : ℕ) → word_after bytes word ≡ word

-- who is shown, read off the number that tells it
pub record Tells (c : Contender) : Type 0 where
  pub somebody : word_for (Next c) / 0x8000 ≡ 1
  pub broadcast_bit : word_for (Next c) / 4096 % 8 ≡ c.bit
  pub own_address : word_for (Next c) % 4096 ≡ c.address

-- ---- Who is shown

-- "the contest run afresh over the roll", with any list lent for the slots in which the others lose
pub record Won (roll : List Contender) (numbers : List ℕ) (shown : Shown) : Type 0 where
  pub place : ℕ
  pub contest : contest_of roll numbers ≡ Ok place
  pub wins : Wins roll place
  pub is : shown ≡ Next (get_or roll place nobody)

-- after calls that made such a roll: "Keep a roll of up to 50 requests", no two of them alike; who is shown; and the
-- bytes, whatever stood in them before the roll was begun
pub record After (calls : List Call) : Type 0 where
  pub few : length (roll_of calls) ≤ most_contenders
  pub unlike : (i : ℕ) → OccursAgain (roll_of calls) i → ⊥
  pub none : roll_of calls ≡ [] → shown_of (roll_of calls) ≡ Nobody
  pub winner : (numbers : List ℕ) → 0 < length (roll_of calls) → length (roll_of calls) ≤ length numbers
      → Won (roll_of calls) numbers (shown_of (roll_of calls))
  pub kept : (bytes : List ℕ) → length bytes ≡ roll_bytes
      → foldl bytes_after bytes (begin ∷ calls) ≡ bytes_of (roll_of calls)
  pub again : roll_in (bytes_of (roll_of calls)) ≡ roll_of calls

pub record Relied : Type 0 where
  pub joins : (c : Contender) (roll : List Contender) → RightlyJoins c roll
  pub leaves : (c : Contender) (roll : List Contender) → RightlyLeaves c roll
  pub in_bytes : (bytes : List ℕ) → InBytes bytes
  pub tells : (c : Contender) → Ranged c → Tells c
  -- "After each change": after any list of calls, and so after each of them
  pub after : (calls : List Call) → After calls
  -- "Room given up by one that left is used again"
  pub room : (c d : Contender) (roll : List Contender) → length roll ≡ most_contenders → leave_end c roll ≡ Done
      → Ranged d → (On d (left c roll) → ⊥)
      → (join_end d (left c roll) ≡ Done) × (length (joined d (left c roll)) ≡ most_contenders)
