-- Ticket 14, what working the figures out comes to: "An empty log gives 0 and no place. Answers: 12, ahead of the
-- others, a lent list of figures shorter than the log; 25, w out of range; a word that is no slot word is 16, checked
-- after 25 over the whole log."
use Rattle.std.specs.Prelude.{◌≡◌, List, [], ◌∷◌, ◌++◌, ℕ, Option, Some, None, Result, Ok, Err, ltb, drop, length}
use Rattle.line.specs.Choice.{pick}
use Rattle.line.specs.Numbers.{refused_no_slot, refused_short_list, refused_window}
use Rattle.logs.specs.Frames.{stray_in}
use Rattle.loads.specs.declared.LoadError.{LoadError}
use Rattle.loads.specs.declared.LoadError.TheVariants.{ShortList, BadWindow, NoSlot}
use Rattle.loads.specs.declared.Peak.{Peak}
use Rattle.loads.specs.Figures.{bad_window, figures_of, largest_of, place_of}

-- the largest figure and its place, or none where there is no figure
unfoldable pub peak_of : List ℕ → Option Peak
peak_of [] = None
peak_of (f ∷ fs) = Some (record { largest = largest_of (f ∷ fs); place = place_of (f ∷ fs) })

-- how it ends: with the largest figure, if there is one, or refused
abbrev pub Ending : Type 0
Ending = Result (Option Peak) LoadError

-- that, where the list of figures has so much room
unfoldable pub end_of : ℕ → ℕ → List ℕ → Ending
end_of w room slots =
    pick (ltb room (length slots)) (Err ShortList)
    (pick (bad_window w) (Err BadWindow) (pick (stray_in slots) (Err NoSlot) (Ok (peak_of (figures_of w slots)))))

-- what is written: a figure for each slot, or nothing where the call is refused
unfoldable pub written_of : ℕ → Ending → List ℕ → List ℕ
written_of w (Ok (Some peak)) slots = figures_of w slots
written_of w (Ok None) slots = []
written_of w (Err ShortList) slots = []
written_of w (Err BadWindow) slots = []
written_of w (Err NoSlot) slots = []

-- the figures of `slots` into `before`, which ends as `r` says and leaves `after`
pub record Loads (w : ℕ) (slots before : List ℕ) (r : Ending) (after : List ℕ) : Type 0 where
  pub ends : r ≡ end_of w (length before) slots
  pub written : after ≡ written_of w r slots ++ drop (length (written_of w r slots)) before

-- the same from C: the number that is given back; the largest and its place, each in a number that is lent and keeps
-- its value where there is nothing to tell
abbrev pub refusal_of : LoadError → ℕ
refusal_of ShortList = refused_short_list
refusal_of BadWindow = refused_window
refusal_of NoSlot = refused_no_slot

unfoldable pub number_of : Ending → ℕ
number_of (Ok found) = 0
number_of (Err e) = refusal_of e

unfoldable pub largest_after : Ending → ℕ → ℕ
largest_after (Ok (Some peak)) before = peak.largest
largest_after (Ok None) before = 0
largest_after (Err ShortList) before = before
largest_after (Err BadWindow) before = before
largest_after (Err NoSlot) before = before

unfoldable pub place_after : Ending → ℕ → ℕ
place_after (Ok (Some peak)) before = peak.place
place_after (Ok None) before = before
place_after (Err ShortList) before = before
place_after (Err BadWindow) before = before
place_after (Err NoSlot) before = before

-- `largest` and `place` are what a host lends for the two numbers, `most` and `first` what stands there afterwards
pub record CalledLoad (w : ℕ) (slots before : List ℕ) (largest place r : ℕ) (after : List ℕ) (most first : ℕ)
    : Type 0 where
  pub number : r ≡ number_of (end_of w (length before) slots)
  pub largest_told : most ≡ largest_after (end_of w (length before) slots) largest
  pub place_told : first ≡ place_after (end_of w (length before) slots) place
  pub figures : Loads w slots before (end_of w (length before) slots) after
