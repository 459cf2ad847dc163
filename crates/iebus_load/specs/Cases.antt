-- Numbers and forms that are computed.
use Rattle.std.specs.Prelude.{true, List, [], ◌∷◌, ◌++◌, ◌≡◌, refl}
use Rattle.line.specs.Cases.{Case, ◌gives◌, all_given}
use Rattle.pieces.specs.Pieces.{bytes_of}
use Rattle.iebus_load.specs.Forms.{column_of, woven}
use Rattle.iebus_load.specs.Texts.{LogFacts, curve_of, head_numbers, percent_of, summary_numbers, summary_of}
use Rattle.iebus_load.specs.Texts.{tail_numbers}

-- five columns, right-aligned, at each number of digits
abbrev column_cases : List Case
column_cases =
    (column_of 0 ++ column_of 9 ++ column_of 10 gives bytes_of "    0" ++ bytes_of "    9" ++ bytes_of "   10")
    ∷ (column_of 100 ++ column_of 999 ++ column_of 1000 gives bytes_of "  100" ++ bytes_of "  999" ++ bytes_of " 1000")
    ∷ (column_of 4096 ++ column_of 10000 ++ column_of 65536 gives bytes_of " 4096" ++ bytes_of "10000" ++ bytes_of "65536")
    ∷ []

abbrev facts : LogFacts
facts = record { slots = 2581; busy = 1365; window = 256; largest = 252; place = 1503 }

abbrev form_cases : List Case
form_cases =
    (woven (bytes_of "a@ b") (7 ∷ []) gives bytes_of "a    7 b")
    ∷ (woven (bytes_of "@@") (7 ∷ 12 ∷ 9 ∷ []) gives bytes_of "    7   12")
    ∷ (woven (bytes_of "@") [] gives bytes_of "    0")
    ∷ (curve_of (3 ∷ 4096 ∷ []) gives bytes_of "V    3h1\nV 4096h1\n")
    ∷ []

-- rounded down; 100 only where all are meant
abbrev percent_cases : List Case
percent_cases =
    (percent_of 0 7 ∷ percent_of 1 3 ∷ percent_of 4095 4096 ∷ percent_of 4096 4096 ∷ [] gives 0 ∷ 33 ∷ 99 ∷ 100 ∷ []) ∷ []

abbrev text_cases : List Case
text_cases =
    (summary_numbers facts gives 2581 ∷ 1365 ∷ 52 ∷ 256 ∷ 252 ∷ 98 ∷ 1503 ∷ [])
    ∷ (summary_of facts
    gives bytes_of " 2581 slots\n 1365 not idle\n   52 % of the slots\n  256 slots in the window\n"
    ++ bytes_of "  252 not idle there at most\n   98 % of the window\n 1503 is the first slot after which it was so\n")
    ∷ (head_numbers facts
    gives 256 ∷ 252 ∷ 98 ∷ 1503 ∷ 1365 ∷ 2581 ∷ 52 ∷ 646 ∷ 1292 ∷ 1938 ∷ 2584 ∷ 2584 ∷ 256 ∷ 256 ∷ [])
    ∷ (tail_numbers facts gives 558 ∷ 85 ∷ [])
    ∷ (tail_numbers (record { slots = 1; busy = 0; window = 4; largest = 0; place = 0 }) gives 175 ∷ 360 ∷ [])
    ∷ (tail_numbers (record { slots = 4; busy = 4; window = 4; largest = 4; place = 3 }) gives 805 ∷ 80 ∷ [])
    ∷ []

pub text-cases : all_given (column_cases ++ form_cases ++ percent_cases ++ text_cases) ≡ true
unfolding all_given column_of woven curve_of summary_numbers summary_of head_numbers tail_numbers
text-cases = refl
