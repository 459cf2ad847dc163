-- What is made of an input: the summary or the plot of its figures, and what is said besides.
use Rattle.std.specs.Option.{option_map}
use Rattle.std.specs.Prelude.{List, [], ◌++◌, ◌≡◌, ℕ, ◌+◌, ◌*◌, ◌≤◌, drop, length, take}
use Rattle.std.specs.Prelude.{Option, Some, None, Ok, Err}
use Rattle.loads.specs.declared.LoadError.TheVariants.{ShortList, BadWindow, NoSlot}
use Rattle.loads.specs.declared.Peak.{Peak}
use Rattle.loads.specs.Figures.{busy_of, figures_of}
use Rattle.loads.specs.Load.{Ending, end_of}
use Rattle.words.specs.Left.{left_over_of}
use Rattle.words.specs.Words.{words_read}
use Rattle.iebus_load.specs.declared.arguments.View.{View}
use Rattle.iebus_load.specs.declared.arguments.View.TheVariants.{Summary, Plot}
use Rattle.iebus_load.specs.declared.output.Message.{Message}
use Rattle.iebus_load.specs.declared.output.Message.TheVariants as message
use Rattle.iebus_load.specs.Texts.{LogFacts, plot_of, summary_of}

-- at most so many slots are read
abbrev pub most_slots : ℕ
most_slots = 65536

unfoldable pub slots_of : List ℕ → List ℕ
slots_of input = words_read input most_slots

abbrev pub loaded_of : ℕ → List ℕ → Ending
loaded_of w input = end_of w most_slots (slots_of input)

-- what is told of a log beside its figures
abbrev pub facts_of : ℕ → List ℕ → Peak → LogFacts
facts_of w slots peak = record {
  slots = length slots;
  busy = busy_of slots;
  window = w;
  largest = peak.largest;
  place = peak.place;
}

abbrev pub text_of : View → LogFacts → List ℕ → List ℕ
text_of Plot f figures = plot_of f figures
text_of Summary f figures = summary_of f

-- what is written of slots with these figures, which ended so: nothing where there is no figure
unfoldable pub whole_by : View → ℕ → Ending → List ℕ → List ℕ → List ℕ
whole_by view w (Ok (Some peak)) slots figures = text_of view (facts_of w slots peak) figures
whole_by view w (Ok None) slots figures = []
whole_by view w (Err e) slots figures = []

-- all that is written
abbrev pub whole_of : View → ℕ → List ℕ → List ℕ
whole_of view w input = whole_by view w (loaded_of w input) (slots_of input) (figures_of w (slots_of input))

-- room for all of it, whatever the input: what stands before the curve, nine bytes for each slot, what stands behind it
abbrev pub text_bytes : ℕ
text_bytes = 992 + most_slots * 9 + 253

-- what a text of so many bytes is given of it
abbrev pub output_of : View → ℕ → List ℕ → ℕ → List ℕ
output_of view w input room = take room (whole_of view w input)

-- what is said of an input of so many bytes: the refusal or that there is no slot, alone; else `more` if any byte
-- follows the last slot that is read, else `short` for 1 to 3 bytes left over
unfoldable pub message_of : Ending → ℕ → Option Message
message_of (Ok (Some peak)) bytes = option_map message.Left (left_over_of (most_slots * 4) bytes)
message_of (Ok None) bytes = Some message.Empty
message_of (Err ShortList) bytes = None
message_of (Err BadWindow) bytes = Some message.BadWindow
message_of (Err NoSlot) bytes = Some message.NoSlot

-- what has been made of an input in a text: so many bytes, and what is said. The rest of the text is as it was, and a
-- text of `text_bytes` has room for all of it.
pub record Made (view : View) (w : ℕ) (input text : List ℕ) (count : ℕ) (said : Option Message) (after : List ℕ)
    : Type 0 where
  pub counted : count ≡ length (output_of view w input (length text))
  pub written : after ≡ output_of view w input (length text) ++ drop count text
  pub message : said ≡ message_of (loaded_of w input) (length input)
  pub within : count ≤ length text
  pub fits : length (whole_of view w input) ≤ text_bytes
