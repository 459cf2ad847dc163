-- Ticket 1: "it takes .. a lent list of slot words and gives the number of frames and, in order, one record for each
-- from its start". "The list's end breaks a frame off as idle does."
use Rattle.std.specs.Prelude.{Bool, false, ◌||◌, List, [], ◌∷◌, ℕ, ◌<◌, eqb, ltb, get_or}
use Rattle.line.specs.Choice.{pick}
use Rattle.line.specs.Numbers.{slot_idle, slot_start}

-- every word is a level
abbrev pub Low : List ℕ → Type 0
Low levels = (i : ℕ) → get_or levels i 0 < slot_start

-- the levels at the front of a list, up to the next start, idle or the list's end
unfoldable pub levels_from : List ℕ → List ℕ
levels_from [] = []
levels_from (w ∷ ws) = pick (ltb w slot_start) (w ∷ levels_from ws) []

-- for each start word of a list the levels of its frame, in order; what is outside frames is passed over
unfoldable pub frames_of : List ℕ → List (List ℕ)
frames_of [] = []
frames_of (w ∷ ws) = pick (eqb w slot_start) (levels_from ws ∷ frames_of ws) (frames_of ws)

-- "16, a word that is no slot word, checked over the whole list"
unfoldable pub stray_in : List ℕ → Bool
stray_in [] = false
stray_in (w ∷ ws) = ltb slot_idle w || stray_in ws
