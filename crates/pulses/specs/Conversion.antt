-- Ticket 8, what a conversion comes to: "Answers: 12, ahead of the others, a lent answer list shorter than the pulses;
-- 19, a range with least above most, or two that meet; 20, a pulse with least above most, checked after 19 over the
-- whole list."
use Rattle.std.specs.Prelude.{◌≡◌, List, [], ◌++◌, ℕ, Result, Ok, Err, ltb, drop, length}
use Rattle.line.specs.Choice.{pick}
use Rattle.line.specs.Numbers.{refused_pulse, refused_ranges, refused_short_list}
use Rattle.pulses.specs.declared.PulsesError.{PulsesError}
use Rattle.pulses.specs.declared.PulsesError.TheVariants.{ShortList, BadRanges, BadPulse}
use Rattle.pulses.specs.declared.Range.{Range}
use Rattle.pulses.specs.declared.Setting.{Setting}
use Rattle.pulses.specs.Ranges.{bad_ranges}
use Rattle.pulses.specs.Symbols.{bad_in, least_in, most_in, slots_of}

-- how it ends: with a slot for each pulse, or refused
abbrev pub Ending : Type 0
Ending = Result (Unit {0}) PulsesError

-- that, where the answer list has so much room
unfoldable pub end_of : Setting → ℕ → List ℕ → Ending
end_of s room pulses =
    pick (ltb room (length pulses)) (Err ShortList)
    (pick (bad_ranges s) (Err BadRanges) (pick (bad_in pulses) (Err BadPulse) (Ok tt)))

-- what is written: a slot for each pulse, or nothing where the call is refused
unfoldable pub written_of : Setting → Ending → List ℕ → List ℕ
written_of s (Ok done) pulses = slots_of s pulses
written_of s (Err ShortList) pulses = []
written_of s (Err BadRanges) pulses = []
written_of s (Err BadPulse) pulses = []

-- a conversion of `pulses` into `before`, which ends as `r` says and leaves `after`
pub record Converted (s : Setting) (pulses before : List ℕ) (r : Ending) (after : List ℕ) : Type 0 where
  pub ends : r ≡ end_of s (length before) pulses
  pub written : after ≡ written_of s r pulses ++ drop (length (written_of s r pulses)) before

-- the same from C: the number that is given back, and the setting by three words, each a range as a pulse is one
abbrev pub refusal_of : PulsesError → ℕ
refusal_of ShortList = refused_short_list
refusal_of BadRanges = refused_ranges
refusal_of BadPulse = refused_pulse

abbrev pub number_of : Ending → ℕ
number_of (Ok done) = 0
number_of (Err e) = refusal_of e

abbrev pub range_in : ℕ → Range
range_in word = record { least = least_in word; most = most_in word }

abbrev pub setting_in : ℕ → ℕ → ℕ → Setting
setting_in zeros ones starts = record { zero = range_in zeros; one = range_in ones; start = range_in starts }

pub record CalledSlots (s : Setting) (pulses before : List ℕ) (r : ℕ) (after : List ℕ) : Type 0 where
  pub number : r ≡ number_of (end_of s (length before) pulses)
  pub slots : Converted s pulses before (end_of s (length before) pulses) after
