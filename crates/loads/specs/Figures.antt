-- Ticket 14: "the number of slots that are not idle among the latest w, w from 1 to 4,096, after every slot, and the
-- largest such number with the first place where it was reached."
use Rattle.std.specs.Prelude.{Bool, ◌||◌, List, [], ◌∷◌, ℕ, ◌+◌, ◌-◌, max, sum_by, eqb, ltb, drop, length, take}
use Rattle.line.specs.Choice.{pick}
use Rattle.line.specs.Numbers.{most_window, slot_idle}
use Rattle.line.specs.Places.{first_place, placed}

-- "w out of range": it is "from 1 to 4,096"
abbrev pub bad_window : ℕ → Bool
bad_window w = ltb w 1 || ltb most_window w

-- "slots that are not idle": levels and starts, in a frame or outside all frames
abbrev pub busy : ℕ → ℕ
busy slot = pick (eqb slot slot_idle) 0 1

-- how many there are of them
abbrev pub busy_of : List ℕ → ℕ
busy_of slots = sum_by busy slots

-- "the latest w" of some slots; "Before w slots have come, count those there are."
abbrev pub latest : ℕ → List ℕ → List ℕ
latest w slots = drop (length slots - w) slots

-- the figure after the slot at a place: "the count made afresh from the log"
abbrev pub figure_at : ℕ → List ℕ → ℕ → ℕ
figure_at w slots place = busy_of (latest w (take (place + 1) slots))

-- "after every slot"
abbrev pub figures_of : ℕ → List ℕ → List ℕ
figures_of w slots = placed (figure_at w slots) (length slots)

-- "the largest such number", 0 where there is none
unfoldable pub largest_of : List ℕ → ℕ
largest_of [] = 0
largest_of (f ∷ fs) = max f (largest_of fs)

-- "with the first place where it was reached", counted from 0
abbrev pub place_of : List ℕ → ℕ
place_of figures = first_place (eqb (largest_of figures)) figures
