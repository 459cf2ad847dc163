-- What is made of an input: the slots of its pulses, as bytes, and what is said besides.
use Rattle.std.specs.Option.{option_map}
use Rattle.std.specs.Prelude.{List, ◌≡◌, ℕ, ◌*◌, ◌/◌, Option, Some, None, Ok, Err, min, length}
use Rattle.pulses.specs.declared.PulsesError.TheVariants.{ShortList, BadRanges, BadPulse}
use Rattle.pulses.specs.declared.Setting.{Setting}
use Rattle.pulses.specs.Conversion.{Ending, end_of, written_of}
use Rattle.words.specs.Left.{left_over_of}
use Rattle.words.specs.Words.{bytes_of, words_of, words_read}
use Rattle.iebus_slots.specs.declared.output.Message.{Message}
use Rattle.iebus_slots.specs.declared.output.Message.TheVariants as message

-- at most so many pulses are read, as many as `iebus_dump` reads slots
abbrev pub most_pulses : ℕ
most_pulses = 16384

-- a pulse is a word, four bytes, the lowest first
unfoldable pub pulses_of : List ℕ → List ℕ
pulses_of input = words_read input most_pulses

abbrev pub measured_of : Setting → List ℕ → Ending
measured_of s input = end_of s most_pulses (pulses_of input)

-- how many of so many pulses have a slot then
abbrev pub given_of : Ending → ℕ → ℕ
given_of (Ok done) count = count
given_of (Err e) count = 0

-- the slots, none where the call is refused
abbrev pub slots_for : Setting → List ℕ → List ℕ
slots_for s input = written_of s (measured_of s input) (pulses_of input)

-- their bytes, as far as there is room for whole words
unfoldable pub output_of : Setting → List ℕ → ℕ → List ℕ
output_of s input room = bytes_of (slots_for s input) (min (length (slots_for s input)) (room / 4) * 4)

-- where there is room for the bytes of all pulses, those of all slots are written, and are read again as these slots
pub record ReadAgain (s : Setting) (input : List ℕ) : Type 0 where
  pub whole : length (output_of s input (most_pulses * 4)) ≡ length (slots_for s input) * 4
  pub words : words_of (output_of s input (most_pulses * 4)) (length (slots_for s input)) ≡ slots_for s input

-- what is said of an input of so many bytes: the refusal alone, else `more` if any byte follows the last pulse that is
-- read, else `short` for 1 to 3 bytes left over
unfoldable pub message_of : Ending → ℕ → Option Message
message_of (Ok done) bytes = option_map message.Left (left_over_of (most_pulses * 4) bytes)
message_of (Err ShortList) bytes = None
message_of (Err BadRanges) bytes = Some message.BadRanges
message_of (Err BadPulse) bytes = Some message.BadPulse
