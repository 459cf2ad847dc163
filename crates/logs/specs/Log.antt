-- Ticket 1, what reading a log comes to: "Answers: 16, a word that is no slot word, checked over the whole list before
-- anything is read; 12, ahead of it, a lent answer list shorter than the slot list."
use Rattle.std.specs.Prelude.{Bool, not, ◌≡◌, List, [], ◌++◌, ℕ, Result, Ok, Err, eqb, ltb, drop, length}
use Rattle.line.specs.Choice.{pick}
use Rattle.line.specs.Numbers.{refused_no_slot, refused_short_list}
use Rattle.logs.specs.declared.LogError.{LogError}
use Rattle.logs.specs.declared.LogError.TheVariants.{ShortList, NoSlot}
use Rattle.logs.specs.Frames.{frames_of, stray_in}
use Rattle.logs.specs.Records.{records_of, words_of}

-- how a reading ends: with the number of its frames, or refused
abbrev pub LogRead : Type 0
LogRead = Result ℕ LogError

-- how it does where the answer list has so much room
unfoldable pub end_of : ℕ → List ℕ → LogRead
end_of room slots =
    pick (ltb room (length slots)) (Err ShortList) (pick (stray_in slots) (Err NoSlot) (Ok (length (frames_of slots))))

-- what is written: every record, or nothing where the list is refused
unfoldable pub written_of : Bool → LogRead → List ℕ → List ℕ
written_of long (Ok count) slots = words_of (records_of long slots)
written_of long (Err ShortList) slots = []
written_of long (Err NoSlot) slots = []

-- a reading of `slots` into `before`, which ends as `r` says and leaves `after`
pub record ReadLog (long : Bool) (slots before : List ℕ) (r : LogRead) (after : List ℕ) : Type 0 where
  pub ends : r ≡ end_of (length before) slots
  pub written : after ≡ written_of long r slots ++ drop (length (written_of long r slots)) before

-- "16, a word that is no slot word", "12, ahead of it, a lent answer list shorter than the slot list"
abbrev pub refusal_of : LogError → ℕ
refusal_of ShortList = refused_short_list
refusal_of NoSlot = refused_no_slot

-- the same from C: what is given back, and the number of frames, which keeps its value where the list is refused
unfoldable pub number_of : LogRead → ℕ
number_of (Ok count) = 0
number_of (Err e) = refusal_of e

unfoldable pub frames_after : LogRead → ℕ → ℕ
frames_after (Ok count) before = count
frames_after (Err e) before = before

-- "the mode": 0 is 16 attempts, any other 32
abbrev pub long_in : ℕ → Bool
long_in mode = not (eqb mode 0)

pub record CalledLog (mode : ℕ) (slots before : List ℕ) (count r : ℕ) (after : List ℕ) (countAfter : ℕ) : Type 0 where
  pub number : r ≡ number_of (end_of (length before) slots)
  pub frames : countAfter ≡ frames_after (end_of (length before) slots) count
  pub records : ReadLog (long_in mode) slots before (end_of (length before) slots) after
