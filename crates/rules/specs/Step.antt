-- One word: the unit's next state, and its answer as a word.
use Rattle.std.specs.Prelude.{ℕ, ◌+◌, ◌*◌, ◌%◌, Bool, ◌&&◌, eqb, Some, Ok, Err}
use Rattle.line.specs.Choice.{pick}
use Rattle.line.specs.Slot.{Class, slot, stray, host, class_of}
use Rattle.line.specs.Numbers.{drive_low, kind_taken, kind_written, kind_value, kind_refused}
use Rattle.line.specs.declared.slot.Slot.{Slot}
use Rattle.line.specs.declared.slot.Slot.TheVariants.{Level, Start, Idle}
use Rattle.rules.specs.declared.answer.Refusal.TheVariants.{LevelUnheard, StrayBit}
use Rattle.rules.specs.declared.answer.Reply.TheVariants.{Taken, Written, Read}
use Rattle.rules.specs.declared.state.Acted.{Acted}
use Rattle.rules.specs.Answers.{Answer, number_of}
use Rattle.rules.specs.Set.{core·regs}
use Rattle.rules.specs.State.{State, reset, is_empty, seen_of, tbf_after, rbf_after}
use Rattle.rules.specs.Slots.{on_slot, core_drive}
use Rattle.rules.specs.Registers.{Told, wrote, restarted, gave, denied, told_of}

-- what the unit drives in the next slot
unfoldable pub next_drive : State → ℕ
next_drive s = core_drive s.core (is_empty s.rbf)

-- ---- slots

abbrev pub acted_on : State → Acted → State
acted_on s a = record { core = a.core; tbf = tbf_after a.act s.tbf; rbf = rbf_after a.act s.rbf }

abbrev pub acted_by : State → Slot → State
acted_by s c = acted_on s (on_slot s.core (Some c) (seen_of s.tbf s.rbf))

-- number 5: "level 1 while the unit drives 0"
unfoldable pub clashes : State → Bool → Bool
clashes s bit = bit && eqb (next_drive s) drive_low

unfoldable pub slot_on : State → Slot → State
slot_on s (Level bit) = pick (clashes s bit) s (acted_by s (Level bit))
slot_on s Start = acted_by s Start
slot_on s Idle = acted_by s Idle

unfoldable pub slot_said : State → State → Slot → Answer
slot_said s t (Level bit) = pick (clashes s bit) (Err LevelUnheard) (Ok (Taken (next_drive t)))
slot_said s t Start = Ok (Taken (next_drive t))
slot_said s t Idle = Ok (Taken (next_drive t))

-- ---- host words

-- "A refusal changes no state"
abbrev pub told_on : State → Told → State
told_on s (wrote r tbf) =
    record { core = core·regs r s.core; tbf = tbf; rbf = s.rbf }
told_on s restarted = reset
told_on s (gave rbf v) = record { core = s.core; tbf = s.tbf; rbf = rbf }
told_on s (denied refusal) = s

abbrev pub told_said : State → Told → Answer
told_said t (wrote r tbf) = Ok (Written (next_drive t))
told_said t restarted = Ok (Written (next_drive t))
told_said t (gave rbf v) = Ok (Read v (next_drive t))
told_said t (denied refusal) = Err refusal

-- ---- any word; with a stray bit it is no slot, and number 2: "an unnamed bit is set"

abbrev pub step_as : Class → State → ℕ → State
step_as (slot c) s w = slot_on s c
step_as stray s w = s
step_as host s w = told_on s (told_of s.core.regs s.tbf s.rbf w)

abbrev pub said_as : Class → State → State → ℕ → Answer
said_as (slot c) s t w = slot_said s t c
said_as stray s t w = Err StrayBit
said_as host s t w = told_said t (told_of s.core.regs s.tbf s.rbf w)

-- the state after a word
unfoldable pub step_of : State → ℕ → State
step_of s w = step_as (class_of w) s w

-- the answer to a word; the drive bits are those of the state after it
unfoldable pub answer_of : State → ℕ → Answer
answer_of s w = said_as (class_of w) s (step_of s w) w

-- "Answers: 8 slot taken, 9 written, 10 read (bits 7-0 value), 15 refused (bits 7-0 number). Kinds 8 to 10 carry in
-- bits 9-8 what the unit drives in the next slot"
abbrev pub refused_word : ℕ → ℕ
refused_word number = kind_refused * 0x1000_0000 + number % 256

unfoldable pub word_of : Answer → ℕ
word_of (Ok (Taken d)) = kind_taken * 0x1000_0000 + d % 4 * 256
word_of (Ok (Written d)) = kind_written * 0x1000_0000 + d % 4 * 256
word_of (Ok (Read v d)) = kind_value * 0x1000_0000 + d % 4 * 256 + v % 256
word_of (Err refusal) = refused_word (number_of refusal)
