-- What private functions cite: what is told of a log.
use Rattle.std.specs.Prelude.{List, ◌≡◌, ℕ, ◌<◌, ◌≤◌, length}
use Rattle.std.specs.Prelude.{Ok, Some}
use Rattle.loads.specs.declared.Peak.{Peak}
use Rattle.loads.specs.Load.{Ending}
use Rattle.iebus_load.specs.Texts.{LogFacts}
use Rattle.iebus_load.specs.Output.{most_slots}

-- numbers of which percentages can be made
pub record Sized (f : LogFacts) : Type 0 where
  pub slots_some : 0 < f.slots
  pub slots_small : f.slots ≤ most_slots
  pub busy_small : f.busy ≤ most_slots
  pub window_some : 0 < f.window
  pub window_small : f.window ≤ most_slots
  pub largest_small : f.largest ≤ f.window
  pub place_small : f.place < most_slots

-- a largest figure and its place are those of a log that is read
pub record OfLog (w : ℕ) (slots : List ℕ) (peak : Peak) : Type 0 where
  pub some : 0 < length slots
  pub few : length slots ≤ most_slots
  pub window_some : 0 < w
  pub window_small : w ≤ most_slots
  pub largest_small : peak.largest ≤ w
  pub place_small : peak.place < most_slots

abbrev pub Told : ℕ → Ending → List ℕ → Type 0
Told w ended slots = (peak : Peak) → ended ≡ Ok (Some peak) → OfLog w slots peak
