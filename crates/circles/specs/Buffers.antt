-- What a word does to TBF and RBF, by the calls that it makes on each.
use Rattle.std.specs.Prelude.{ℕ, List, [], ◌∷◌, ◌≡◌, eqb, Some}
use Rattle.line.specs.Choice.{pick}
use Rattle.line.specs.Numbers.{rbf_bytes, reg_rbf, reg_tbf, tbf_bytes}
use Rattle.line.specs.Slot.{Class, slot, stray, host, class_of}
use Rattle.line.specs.declared.slot.Slot.{Slot}
use Rattle.line.specs.declared.slot.Slot.TheVariants.{Level, Start, Idle}
use Rattle.rules.specs.Registers.{Told, wrote, restarted, gave, denied, register_of, told_of, value_of}
use Rattle.rules.specs.Slots.{on_slot}
use Rattle.rules.specs.State.{State, seen_of}
use Rattle.rules.specs.Step.{clashes}
use Rattle.rules.specs.declared.state.Act.{Act}
use Rattle.rules.specs.declared.state.Act.TheVariants.{Nothing, Take, Empty, Header, Byte}
use Rattle.circles.specs.Calls.{ByCalls, Call, push, take, empty, turns}
use Rattle.circles.specs.Circle.{Buffer, list_of}

-- ---- the two buffers

pub record Buffers : Type 0 where
  pub tbf : Buffer
  pub rbf : Buffer

-- calls on each
pub record Calls : Type 0 where
  pub tbf : List Call
  pub rbf : List Call

abbrev pub after_calls : Calls → Buffers → Buffers
after_calls c b = record { tbf = turns tbf_bytes b.tbf c.tbf; rbf = turns rbf_bytes b.rbf c.rbf }

-- what they have made of both
pub record InCircles (c : Calls) (b after : Buffers) : Type 0 where
  pub tbf : ByCalls tbf_bytes b.tbf c.tbf after.tbf
  pub rbf : ByCalls rbf_bytes b.rbf c.rbf after.rbf

-- ---- the calls of a word

abbrev pub no_calls : Calls
no_calls = record { tbf = []; rbf = [] }

-- a byte is written to TBF
abbrev pub filled : ℕ → Calls
filled v = record { tbf = push v ∷ []; rbf = [] }

-- the oldest byte of RBF is read, and leaves it
abbrev pub drawn : Calls
drawn = record { tbf = []; rbf = take ∷ [] }

-- a reset
abbrev pub emptied : Calls
emptied = record { tbf = empty ∷ []; rbf = empty ∷ [] }

-- what a slot does to TBF
unfoldable pub sent_by : Act → List Call
sent_by Nothing = []
sent_by Take = take ∷ []
sent_by Empty = empty ∷ []
sent_by (Header a b c) = []
sent_by (Byte b) = []

-- .. to RBF
unfoldable pub stored_by : Act → List Call
stored_by Nothing = []
stored_by Take = []
stored_by Empty = []
stored_by (Header a b c) = push a ∷ push b ∷ push c ∷ []
stored_by (Byte b) = push b ∷ []

abbrev pub acting : Act → Calls
acting act = record { tbf = sent_by act; rbf = stored_by act }

abbrev pub slot_taken : State → Slot → Calls
slot_taken s c = acting (on_slot s.core (Some c) (seen_of s.tbf s.rbf)).act

-- a refused slot does nothing
unfoldable pub slot_calls : State → Slot → Calls
slot_calls s (Level bit) = pick (clashes s bit) no_calls (slot_taken s (Level bit))
slot_calls s Start = slot_taken s Start
slot_calls s Idle = slot_taken s Idle

-- host words: what one did, the register that it names, and the value
abbrev pub told_calls : Told → ℕ → ℕ → Calls
told_calls (wrote r tbf) register v = pick (eqb register reg_tbf) (filled v) no_calls
told_calls restarted register v = emptied
told_calls (gave rbf value) register v = pick (eqb register reg_rbf) drawn no_calls
told_calls (denied refusal) register v = no_calls

abbrev pub calls_as : Class → State → ℕ → Calls
calls_as (slot c) s w = slot_calls s c
calls_as stray s w = no_calls
calls_as host s w = told_calls (told_of s.core.regs s.tbf s.rbf w) (register_of w) (value_of w)

-- any word, in the state before it
unfoldable pub word_calls : State → ℕ → Calls
word_calls s w = calls_as (class_of w) s w

-- ---- the rules

-- "Read as a list, oldest first, the buffer equals the old one": both are those of a state
pub record ReadAs (b : Buffers) (s : State) : Type 0 where
  pub tbf : list_of tbf_bytes b.tbf ≡ s.tbf
  pub rbf : list_of rbf_bytes b.rbf ≡ s.rbf
