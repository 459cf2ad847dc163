-- Pulses that are computed: what the text of ticket 8 says of each setting and list.
use Rattle.std.specs.Prelude.{true, List, [], ◌∷◌, ◌++◌, ◌≡◌, refl, ℕ, ◌+◌, ◌*◌}
use Rattle.line.specs.Cases.{Case, ◌gives◌, all_given}
use Rattle.line.specs.Choice.{bit_of}
use Rattle.pulses.specs.declared.Setting.{Setting}
use Rattle.pulses.specs.Conversion.{end_of, number_of, setting_in, written_of}
use Rattle.pulses.specs.Ranges.{bad_ranges}
use Rattle.pulses.specs.Symbols.{slots_of, symbol_of}

-- a pulse and a range as a word: the least in the lower half
abbrev pub word : ℕ → ℕ → ℕ
word least most = least + most * 0x1_0000

-- 0 and 1 are neighbours, and there is a gap up to start
abbrev pub bench : Setting
bench = setting_in (word 10 20) (word 21 30) (word 60 80)

-- "both up to 65,535": widths whose upper byte and highest bit count
abbrev whole : Setting
whole = setting_in (word 0 0) (word 256 32767) (word 32768 65535)

-- each end of each range, from inside and by one tick outside; over two ranges; in the gap and over its ends; wider
-- than the range that lies in it; widths up to the highest
abbrev symbol_cases : List Case
symbol_cases =
    (slots_of bench (word 10 20 ∷ word 10 10 ∷ word 20 20 ∷ word 9 20 ∷ word 9 9 ∷ word 12 21 ∷ [])
    gives 0 ∷ 0 ∷ 0 ∷ 3 ∷ 3 ∷ 3 ∷ [])
    ∷ (slots_of bench (word 21 30 ∷ word 21 21 ∷ word 30 30 ∷ word 20 25 ∷ word 30 31 ∷ word 31 31 ∷ [])
    gives 1 ∷ 1 ∷ 1 ∷ 3 ∷ 3 ∷ 3 ∷ [])
    ∷ (slots_of bench (word 60 80 ∷ word 60 60 ∷ word 80 80 ∷ word 59 61 ∷ word 59 59 ∷ word 80 81 ∷ [])
    gives 2 ∷ 2 ∷ 2 ∷ 3 ∷ 3 ∷ 3 ∷ [])
    ∷ (slots_of bench (word 40 50 ∷ word 25 70 ∷ word 0 65535 ∷ word 81 65535 ∷ word 0 0 ∷ word 5 25 ∷ [])
    gives 3 ∷ 3 ∷ 3 ∷ 3 ∷ 3 ∷ 3 ∷ [])
    ∷ (slots_of whole (word 0 0 ∷ word 256 257 ∷ word 32768 65535 ∷ word 65535 65535 ∷ word 32767 32768 ∷ word 255 256 ∷ [])
    gives 0 ∷ 1 ∷ 2 ∷ 2 ∷ 3 ∷ 3 ∷ [])
    ∷ []

-- whether a setting is refused
abbrev refuses : ℕ → ℕ → ℕ → ℕ
refuses zeros ones starts = bit_of (bad_ranges (setting_in zeros ones starts))

-- "or two that meet": one tick shared by each pair, in both orders; one range in another; equal ones. Neighbours, one
-- width, and any order are fine; "least above most" in each range, by one tick
abbrev range_cases : List Case
range_cases =
    (refuses (word 10 20) (word 20 30) (word 60 80) ∷ refuses (word 20 30) (word 10 20) (word 60 80)
    ∷ refuses (word 10 20) (word 40 50) (word 20 30) ∷ refuses (word 20 30) (word 40 50) (word 10 20)
    ∷ refuses (word 60 80) (word 10 20) (word 20 30) ∷ refuses (word 60 80) (word 20 30) (word 10 20) ∷ []
    gives 1 ∷ 1 ∷ 1 ∷ 1 ∷ 1 ∷ 1 ∷ [])
    ∷ (refuses (word 10 20) (word 12 15) (word 60 80) ∷ refuses (word 12 15) (word 60 80) (word 10 20)
    ∷ refuses (word 60 80) (word 10 20) (word 10 20) ∷ []
    gives 1 ∷ 1 ∷ 1 ∷ [])
    ∷ (refuses (word 10 20) (word 21 30) (word 31 40) ∷ refuses (word 31 40) (word 10 20) (word 21 30)
    ∷ refuses (word 7 7) (word 0 6) (word 8 65535) ∷ refuses (word 60 80) (word 30 40) (word 0 0) ∷ []
    gives 0 ∷ 0 ∷ 0 ∷ 0 ∷ [])
    ∷ (refuses (word 11 10) (word 21 30) (word 60 80) ∷ refuses (word 10 20) (word 31 30) (word 60 80)
    ∷ refuses (word 10 20) (word 21 30) (word 81 80) ∷ []
    gives 1 ∷ 1 ∷ 1 ∷ [])
    ∷ []

-- the answer, where the answer list has so much room
abbrev answer : Setting → ℕ → List ℕ → ℕ
answer s room pulses = number_of (end_of s room pulses)

abbrev wrong : Setting
wrong = setting_in (word 10 20) (word 20 30) (word 60 80)

-- "12, ahead of the others"; 19, also without a pulse; 20, at the first and the last place; nothing is written then
abbrev answer_cases : List Case
answer_cases =
    (answer wrong 1 (word 10 20 ∷ word 3 2 ∷ []) ∷ answer bench 1 (word 10 20 ∷ word 3 2 ∷ [])
    ∷ answer bench 1 (word 10 20 ∷ word 10 20 ∷ []) ∷ []
    gives 12 ∷ 12 ∷ 12 ∷ [])
    ∷ (answer wrong 2 (word 10 20 ∷ word 3 2 ∷ []) ∷ answer wrong 0 [] ∷ answer wrong 1 (word 10 20 ∷ []) ∷ []
    gives 19 ∷ 19 ∷ 19 ∷ [])
    ∷ (answer bench 2 (word 10 20 ∷ word 3 2 ∷ []) ∷ answer bench 2 (word 16 15 ∷ word 10 20 ∷ []) ∷ []
    gives 20 ∷ 20 ∷ [])
    ∷ (answer bench 2 (word 10 20 ∷ word 7 7 ∷ []) ∷ answer bench 3 (word 60 80 ∷ []) ∷ answer bench 0 [] ∷ []
    gives 0 ∷ 0 ∷ 0 ∷ [])
    ∷ (written_of bench (end_of bench 3 (word 10 20 ∷ word 3 2 ∷ [])) (word 10 20 ∷ word 3 2 ∷ []) gives [])
    ∷ (written_of wrong (end_of wrong 3 (word 10 20 ∷ [])) (word 10 20 ∷ []) gives [])
    ∷ (written_of bench (end_of bench 1 (word 10 20 ∷ word 10 20 ∷ [])) (word 10 20 ∷ word 10 20 ∷ []) gives [])
    ∷ (written_of bench (end_of bench 3 (word 60 80 ∷ word 3 4 ∷ [])) (word 60 80 ∷ word 3 4 ∷ [])
    gives 2 ∷ 3 ∷ [])
    ∷ []

pub pulse_cases : all_given (symbol_cases ++ range_cases ++ answer_cases) ≡ true
unfolding all_given symbol_of bad_ranges end_of written_of
pulse_cases = refl
