-- Document 01, "Words": "0, slot: bits 1-0 are 0 or 1 (settled level), 2 (start), 3 (idle)." "Bits not named are 0."
use Rattle.std.specs.Prelude.{true, false, List, [], ◌∷◌, ℕ, ◌/◌, eqb, get_or, Some, None}
use Rattle.std.specs.declared.option.Option.{Option}
use Rattle.line.specs.Choice.{pick}
use Rattle.line.specs.Numbers.{kind_slot}
use Rattle.line.specs.declared.slot.Slot.{Slot}
use Rattle.line.specs.declared.slot.Slot.TheVariants.{Level, Start, Idle}

-- the four slots, each at the place that is its word
abbrev pub slots : List (Option Slot)
slots = Some (Level false) ∷ Some (Level true) ∷ Some Start ∷ Some Idle ∷ []

-- the slot that a word says; past the four words a bit is set that is not named, and there is none
unfoldable pub slot_of : ℕ → Option Slot
slot_of word = get_or slots word None

-- "32-bit words, whose top four bits are the kind"
abbrev pub kind_of : ℕ → ℕ
kind_of word = word / 0x1000_0000

-- a word of kind 0 is a slot's, or has a stray bit and is no slot; every other one is the host's
pub data Class : Type 0 where
  slot : Slot → Class
  stray : Class
  host : Class

abbrev pub class_in : Option Slot → Class
class_in (Some c) = slot c
class_in None = stray

unfoldable pub class_of : ℕ → Class
class_of word = pick (eqb (kind_of word) kind_slot) (class_in (slot_of word)) host
