-- Ticket 8: "A pulse becomes a symbol exactly if its whole interval lies in that symbol's range; otherwise it becomes
-- idle".
use Rattle.std.specs.List.{list_any}
use Rattle.std.specs.Prelude.{Bool, ◌&&◌, List, map, ℕ, ◌/◌, ◌%◌, leb, ltb}
use Rattle.line.specs.Choice.{pick}
use Rattle.line.specs.Numbers.{slot_high, slot_idle, slot_low, slot_start}
use Rattle.pulses.specs.declared.Range.{Range}
use Rattle.pulses.specs.declared.Setting.{Setting}

-- "a least and a most tick count, both up to 65,535": both in one word, the least in the lower half
abbrev pub least_in : ℕ → ℕ
least_in word = word % 0x1_0000

abbrev pub most_in : ℕ → ℕ
most_in word = word / 0x1_0000

-- whether an interval lies in a range, by its two ends
abbrev pub within : Range → ℕ → ℕ → Bool
within r least most = leb r.least least && leb most r.most

-- the symbol of a pulse that was measured so
unfoldable pub symbol_of : Setting → ℕ → ℕ → ℕ
symbol_of s least most =
    pick (within s.zero least most) slot_low
    (pick (within s.one least most) slot_high (pick (within s.start least most) slot_start slot_idle))

-- the slots of some pulses, in their order
abbrev pub slots_of : Setting → List ℕ → List ℕ
slots_of s pulses = map (λ (pulse : ℕ). symbol_of s (least_in pulse) (most_in pulse)) pulses

-- "20, a pulse with least above most", over the whole list
abbrev pub bad_pulse : ℕ → Bool
bad_pulse pulse = ltb (most_in pulse) (least_in pulse)

abbrev pub bad_in : List ℕ → Bool
bad_in pulses = list_any bad_pulse pulses
