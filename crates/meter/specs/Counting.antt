-- What private functions cite: the count that goes on from slot to slot.
use Rattle.std.specs.Prelude.{List, ℕ, ◌-◌, leb, ltb, get_or, take}
use Rattle.line.specs.Choice.{pick}
use Rattle.loads.specs.Figures.{busy, busy_of, latest}
use Rattle.loads.specs.declared.Peak.{Peak}

-- what is counted before the slot at a place
abbrev pub count_at : ℕ → List ℕ → ℕ → ℕ
count_at w slots place = busy_of (latest w (take place slots))

-- what leaves the window with it: the slot that came w before it
abbrev pub leaving_at : ℕ → List ℕ → ℕ → ℕ
leaving_at w slots place = pick (leb w place) (busy (get_or slots (place - w) 0)) 0

-- the largest figure so far, and its first place, with one figure more that stands at a place
unfoldable pub higher_of : Peak → ℕ → ℕ → Peak
higher_of m figure place = pick (ltb m.largest figure) (record { largest = figure; place = place }) m
