-- What a planner relies on, of every window and every log: how a call ends, and each figure, told in the words of
-- ticket 14 and by lists that are cut where the window begins and ends, so that a definition that says something else
-- is refused. What is written, and what a host in C is told, are told once, in `Load.antt`.
use Rattle.std.specs.Prelude.{List, Ok, Err, Some, None, [], ◌∷◌, ◌++◌, ◌≡◌, ℕ, ◌+◌, ◌<◌, ◌≤◌, get_or, length}
use Rattle.line.specs.Numbers.{most_window, slot_idle}
use Rattle.loads.specs.declared.LoadError.TheVariants.{ShortList, BadWindow, NoSlot}
use Rattle.loads.specs.declared.Peak.{Peak}
use Rattle.loads.specs.Figures.{busy_of, figures_of, largest_of, place_of}
use Rattle.loads.specs.Load.{end_of}

-- "w from 1 to 4,096"
pub record Window (w : ℕ) : Type 0 where
  pub some : 1 ≤ w
  pub small : w ≤ most_window

-- a log in which each word is a slot word
abbrev pub AllSlots : List ℕ → Type 0
AllSlots slots = (i : ℕ) → i < length slots → get_or slots i 0 ≤ slot_idle

-- "the largest such number with the first place where it was reached"
pub record Peaks (figures : List ℕ) (largest place : ℕ) : Type 0 where
  pub within : place < length figures
  pub reached : get_or figures place 0 ≡ largest
  pub most : (i : ℕ) → i < length figures → get_or figures i 0 ≤ largest
  pub first : (i : ℕ) → i < place → get_or figures i 0 < largest

-- nothing is refused of a log that has a slot
pub record Right (w room : ℕ) (slots : List ℕ) : Type 0 where
  pub some : 0 < length slots
  pub fits : length slots ≤ room
  pub window : Window w
  pub words : AllSlots slots

pub record Relied (w : ℕ) : Type 0 where
  -- "12, ahead of the others"; "25, w out of range", also with an empty log; "16, checked after 25 over the whole log";
  -- "An empty log gives 0 and no place"
  pub short_list : (room : ℕ) (slots : List ℕ) → room < length slots → end_of w room slots ≡ Err ShortList
  pub bad-window : (room : ℕ) (slots : List ℕ) → length slots ≤ room → (Window w → ⊥) → end_of w room slots ≡ Err BadWindow
  pub no_slot : (room : ℕ) (slots : List ℕ) → length slots ≤ room → Window w → (AllSlots slots → ⊥)
      → end_of w room slots ≡ Err NoSlot
  pub empty : (room : ℕ) → Window w → end_of w room [] ≡ Ok None
  -- else the largest figure and its first place are told, and nothing else is told so
  pub given : (room : ℕ) (slots : List ℕ) → Right w room slots
      → end_of w room slots
      ≡ Ok (Some (record { largest = largest_of (figures_of w slots); place = place_of (figures_of w slots) }))
  pub taken : (room : ℕ) (slots : List ℕ) (peak : Peak) → end_of w room slots ≡ Ok (Some peak)
      → Right w room slots × Peaks (figures_of w slots) peak.largest peak.place
  -- "after every slot"
  pub as_many : (slots : List ℕ) → length (figures_of w slots) ≡ length slots
  -- "among the latest w": whatever came before these and comes after them
  pub full : (before window after : List ℕ) (place : ℕ) → length window ≡ w
      → place + 1 ≡ length before + length window
      → get_or (figures_of w (before ++ window ++ after)) place 0 ≡ busy_of window
  -- "Before w slots have come, count those there are"
  pub begun : (window after : List ℕ) (place : ℕ) → length window ≤ w → place + 1 ≡ length window
      → get_or (figures_of w (window ++ after)) place 0 ≡ busy_of window
  -- "the number of slots that are not idle"
  pub none_idle : busy_of [] ≡ 0
  pub one_idle : (slots : List ℕ) → busy_of (slot_idle ∷ slots) ≡ busy_of slots
  pub one_busy : (slot : ℕ) (slots : List ℕ) → (slot ≡ slot_idle → ⊥) → busy_of (slot ∷ slots) ≡ busy_of slots + 1
