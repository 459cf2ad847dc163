-- Logs that are computed: what ticket 14 says of each figure, of the largest and of the answers, at the ends of each
-- rule.
use Rattle.std.specs.Prelude.{true, List, [], ◌∷◌, ◌++◌, ◌≡◌, refl, ℕ}
use Rattle.line.specs.Cases.{Case, ◌gives◌, all_given}
use Rattle.line.specs.Places.{first_place, placed}
use Rattle.logs.specs.Frames.{stray_in}
use Rattle.loads.specs.Figures.{figures_of, largest_of}
use Rattle.loads.specs.Load.{end_of, largest_after, number_of, peak_of, place_after, written_of}

-- idle, then a start and two levels, idle, a level outside all frames, idle
abbrev log : List ℕ
log = 3 ∷ 2 ∷ 1 ∷ 0 ∷ 3 ∷ 3 ∷ 1 ∷ 3 ∷ []

-- a log that begins with a slot that is not idle
abbrev begun : List ℕ
begun = 0 ∷ 3 ∷ 2 ∷ 1 ∷ []

abbrev idles : List ℕ
idles = 3 ∷ 3 ∷ 3 ∷ []

-- each figure: windows of one slot, of some, of the log, of one more, and of the most
abbrev figure_cases : List Case
figure_cases =
    (figures_of 1 log gives 0 ∷ 1 ∷ 1 ∷ 1 ∷ 0 ∷ 0 ∷ 1 ∷ 0 ∷ [])
    ∷ (figures_of 2 log gives 0 ∷ 1 ∷ 2 ∷ 2 ∷ 1 ∷ 0 ∷ 1 ∷ 1 ∷ [])
    ∷ (figures_of 3 log gives 0 ∷ 1 ∷ 2 ∷ 3 ∷ 2 ∷ 1 ∷ 1 ∷ 1 ∷ [])
    ∷ (figures_of 3 begun gives 1 ∷ 1 ∷ 2 ∷ 2 ∷ [])
    ∷ (figures_of 4 begun gives 1 ∷ 1 ∷ 2 ∷ 3 ∷ [])
    ∷ (figures_of 5 begun gives 1 ∷ 1 ∷ 2 ∷ 3 ∷ [])
    ∷ (figures_of 4096 log gives 0 ∷ 1 ∷ 2 ∷ 3 ∷ 3 ∷ 3 ∷ 4 ∷ 4 ∷ [])
    ∷ (figures_of 2 idles gives 0 ∷ 0 ∷ 0 ∷ [])
    ∷ []

-- the answer, then the two numbers, where 77 and 88 were lent
abbrev answer : ℕ → ℕ → List ℕ → List ℕ
answer w room slots =
    number_of (end_of w room slots) ∷ largest_after (end_of w room slots) 77 ∷ place_after (end_of w room slots) 88 ∷ []

-- the largest is reached once, twice with the first place told, at the first place, at the last, and by idles alone; an
-- empty log has none
abbrev peak_cases : List Case
peak_cases =
    (answer 3 8 log gives 0 ∷ 3 ∷ 3 ∷ [])
    ∷ (answer 2 9 log gives 0 ∷ 2 ∷ 2 ∷ [])
    ∷ (answer 1 4 begun gives 0 ∷ 1 ∷ 0 ∷ [])
    ∷ (answer 4 4 begun gives 0 ∷ 3 ∷ 3 ∷ [])
    ∷ (answer 4096 8 log gives 0 ∷ 4 ∷ 6 ∷ [])
    ∷ (answer 2 3 idles gives 0 ∷ 0 ∷ 0 ∷ [])
    ∷ (answer 1 0 [] gives 0 ∷ 0 ∷ 88 ∷ [])
    ∷ (answer 4096 3 [] gives 0 ∷ 0 ∷ 88 ∷ [])
    ∷ []

-- a word that is no slot word at each end
abbrev stray_first : List ℕ
stray_first = 4 ∷ 3 ∷ 1 ∷ []

abbrev stray_last : List ℕ
stray_last = 3 ∷ 1 ∷ 0x103 ∷ []

-- "12, ahead of the others"; "25", also for an empty log; "16, checked after 25 over the whole log"
abbrev answer_cases : List Case
answer_cases =
    (answer 3 7 log gives 12 ∷ 77 ∷ 88 ∷ [])
    ∷ (answer 0 2 stray_last gives 12 ∷ 77 ∷ 88 ∷ [])
    ∷ (answer 4097 2 idles gives 12 ∷ 77 ∷ 88 ∷ [])
    ∷ (answer 2 2 stray_first gives 12 ∷ 77 ∷ 88 ∷ [])
    ∷ (answer 0 3 stray_last gives 25 ∷ 77 ∷ 88 ∷ [])
    ∷ (answer 4097 3 idles gives 25 ∷ 77 ∷ 88 ∷ [])
    ∷ (answer 0 0 [] gives 25 ∷ 77 ∷ 88 ∷ [])
    ∷ (answer 65537 3 idles gives 25 ∷ 77 ∷ 88 ∷ [])
    ∷ (answer 1 3 stray_first gives 16 ∷ 77 ∷ 88 ∷ [])
    ∷ (answer 4096 3 stray_last gives 16 ∷ 77 ∷ 88 ∷ [])
    ∷ []

-- what is written then
abbrev written : ℕ → ℕ → List ℕ → List ℕ
written w room slots = written_of w (end_of w room slots) slots

abbrev written_cases : List Case
written_cases =
    (written 3 9 log gives 0 ∷ 1 ∷ 2 ∷ 3 ∷ 2 ∷ 1 ∷ 1 ∷ 1 ∷ [])
    ∷ (written 3 7 log gives [])
    ∷ (written 0 8 log gives [])
    ∷ (written 2 3 stray_last gives [])
    ∷ (written 2 3 [] gives [])
    ∷ []

pub load_cases : all_given (figure_cases ++ peak_cases ++ answer_cases ++ written_cases) ≡ true
unfolding all_given first_place placed largest_of peak_of stray_in end_of written_of number_of largest_after place_after
load_cases = refl
