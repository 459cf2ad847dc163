-- Short lists, computed: how a run is refused, what it writes, and what it leaves.
use Rattle.std.specs.Prelude.{true, ◌≡◌, refl, List, [], ◌∷◌, ◌++◌, ℕ}
use Rattle.line.specs.Cases.{Case, ◌gives◌, all_given}
use Rattle.line.specs.Choice.{bit_of}
use Rattle.line.specs.Slot.{class_of, slot_of}
use Rattle.isolation.specs.Runs.{run, answers}
use Rattle.rules.specs.Registers as registers
use Rattle.rules.specs.Slots as slots
use Rattle.rules.specs.State as state
use Rattle.rules.specs.State.{State, reset}
use Rattle.rules.specs.Step as step
use Rattle.lists.specs.Run.{answers_after, list_refusal, unit_after}
use Rattle.lists.specs.Bytes.{bytes_after, bytes_of, count_refusal, state_after, words_of}

-- SLRE, which the first word of `three` sets
abbrev pub slre : State → List ℕ
slre s = bit_of s.core.regs.slre ∷ []

-- the second word is of unknown kind, and "a refused word in a list does not stop the list"; the third reads FLG
abbrev pub three : List ℕ
three = 0x1000_0010 ∷ 0x3000_0000 ∷ 0x2100_0000 ∷ []

abbrev pub answered : List ℕ
answered = 0x9000_0100 ∷ 0xF000_0001 ∷ 0xA000_0110 ∷ []

-- the first word as bytes, "each word little-endian", and its answer
abbrev pub spelled : List ℕ
spelled = 0x10 ∷ 0 ∷ 0 ∷ 0x10 ∷ []

-- one answer for each word, in its place; "places past the last answer keep their contents"; 12 where there is no room,
-- 11 before it, and "11 and above write nothing"
unfoldable pub list_cases : List Case
list_cases =
    (answers_after reset three (1 ∷ 2 ∷ 3 ∷ 4 ∷ 5 ∷ []) gives answered ++ 4 ∷ 5 ∷ [])
    ∷ (answers_after reset three (1 ∷ 2 ∷ 3 ∷ []) gives answered)
    ∷ (slre (unit_after reset three (1 ∷ 2 ∷ 3 ∷ [])) gives 1 ∷ [])
    ∷ (list_refusal three (1 ∷ 2 ∷ []) ∷ list_refusal three (1 ∷ 2 ∷ 3 ∷ []) ∷ [] gives 12 ∷ 0 ∷ [])
    ∷ (answers_after reset three (1 ∷ 2 ∷ []) gives 1 ∷ 2 ∷ [])
    ∷ (slre (unit_after reset three (1 ∷ 2 ∷ [])) gives 0 ∷ [])
    ∷ (count_refusal 6 5 ∷ count_refusal 6 8 ∷ count_refusal 8 7 ∷ count_refusal 8 8 ∷ [] gives 11 ∷ 11 ∷ 12 ∷ 0 ∷ [])
    ∷ (bytes_after reset spelled (1 ∷ 2 ∷ 3 ∷ 4 ∷ 5 ∷ []) gives 0x00 ∷ 0x01 ∷ 0x00 ∷ 0x90 ∷ 5 ∷ [])
    ∷ (bytes_after reset (0 ∷ 0 ∷ 0 ∷ 0x21 ∷ []) (1 ∷ 2 ∷ 3 ∷ 4 ∷ []) gives 0x00 ∷ 0x01 ∷ 0x00 ∷ 0xA0 ∷ [])
    ∷ (slre (state_after reset spelled (1 ∷ 2 ∷ 3 ∷ 4 ∷ [])) gives 1 ∷ [])
    ∷ (bytes_after reset spelled (1 ∷ 2 ∷ 3 ∷ []) gives 1 ∷ 2 ∷ 3 ∷ [])
    ∷ (bytes_after reset (spelled ++ 0 ∷ []) (1 ∷ 2 ∷ 3 ∷ 4 ∷ 5 ∷ []) gives 1 ∷ 2 ∷ 3 ∷ 4 ∷ 5 ∷ [])
    ∷ (slre (state_after reset (spelled ++ 0 ∷ []) (1 ∷ 2 ∷ 3 ∷ 4 ∷ 5 ∷ [])) gives 0 ∷ [])
    ∷ []

pub list-cases : all_given list_cases ≡ true
unfolding all_given list_cases answers_after list_refusal unit_after bytes_after bytes_of count_refusal state_after words_of run
    answers class_of slot_of state.is_empty state.takes_part slots.core_drive registers.ctr_refusal registers.write_refusal
    registers.written registers.read_refusal registers.flg_byte registers.read_value registers.write_done
    registers.write_told registers.read_told registers.told_of step.next_drive step.step_of step.answer_of step.word_of
list-cases = refl
