-- The words of a list that are no slots, and its frames: their levels, their number, and that a start begins them
-- afresh.
use mathlib.Core.Bool.{Bool, true, false, ◌||◌}
use mathlib.Core.List.{List, [], ◌∷◌, ◌++◌}
use mathlib.Core.Path.{◌≡◌, refl, ap, ap₂}
use Prim.Native.Nat.{ℕ, zero, suc, ◌+◌, ◌<◌, ◌≤◌}
use native.Mathlib.Omega.{arith}
use borrow.Author.Tests.{le-ltb, lt-ltb, ltb-true}
use lib.Dec.{eqb, ltb}
use lib.ListN.{drop, get_or, length}
use lib.Seq.{get_or-drop}
use Rattle.std.specs.Prelude.{Ok, Err}
use Rattle.line.specs.Choice.{bit_of, pick}
use Rattle.line.specs.Numbers.{slot_idle, slot_start}
use Rattle.logs.specs.Frames.{Low, frames_of, levels_from, stray_in}
use Rattle.logs.specs.Log.{end_of}
use Rattle.logs.specs.Relied.{starts_in}
use Rattle.logs.specs.declared.LogError.TheVariants.{ShortList, NoSlot}

pub stray_found : (slots : List ℕ) (i : ℕ) → 3 < get_or slots i 0 → stray_in slots ≡ true
unfolding stray_in
stray_found [] i h = absurd (omega arith)
stray_found (w ∷ ws) zero h = rw (lt-ltb slot_idle w h)
stray_found (w ∷ ws) (suc i) h = by (ltb slot_idle w) (stray_found ws i h)
  where
    by : (here : Bool) → stray_in ws ≡ true → (here || stray_in ws) ≡ true
    by true later = refl
    by false later = later

pub none_stray : (slots : List ℕ) → ((i : ℕ) → get_or slots i 0 ≤ 3) → stray_in slots ≡ false
unfolding stray_in
none_stray [] h = refl
none_stray (w ∷ ws) h = rw (le-ltb slot_idle w (h 0)) (none_stray ws (λ i. h (suc i)))

pub low_drop : (n : ℕ) (levels : List ℕ) → Low levels → Low (drop n levels)
low_drop n levels low i = rw get_or-drop (low (n + i))

pub levels_low : (ws : List ℕ) → Low (levels_from ws)
unfolding levels_from
levels_low [] i = omega arith
levels_low (w ∷ ws) i = by (ltb w slot_start) refl i (levels_low ws)
  where
    by : (t : Bool) → ltb w slot_start ≡ t → (i : ℕ) → Low (levels_from ws)
        → get_or (pick t (w ∷ levels_from ws) []) i 0 < 2
    by true e zero low = ltb-true w slot_start e
    by true e (suc i) low = low i
    by false e i low = omega arith

-- levels go on up to a word that is none
pub levels_end : (levels : List ℕ) (w : ℕ) (later : List ℕ) → Low levels → slot_start ≤ w
    → levels_from (levels ++ w ∷ later) ≡ levels
unfolding levels_from
levels_end [] w later low h = rw (le-ltb w slot_start h)
levels_end (level ∷ levels) w later low h =
    rw (lt-ltb level slot_start (low 0))
    (ap (λ (l : List ℕ). level ∷ l) (levels_end levels w later (λ i. low (suc i)) h))

pub list_end : (levels : List ℕ) → Low levels → levels_from levels ≡ levels
unfolding levels_from
list_end [] low = refl
list_end (level ∷ levels) low =
    rw (lt-ltb level slot_start (low 0)) (ap (λ (l : List ℕ). level ∷ l) (list_end levels (λ i. low (suc i))))

-- a start ends the levels before it
levels_cut : (earlier later : List ℕ) → levels_from (earlier ++ slot_start ∷ later) ≡ levels_from earlier
unfolding levels_from
levels_cut [] later = refl
levels_cut (w ∷ earlier) later =
    ap (λ (levels : List ℕ). pick (ltb w slot_start) (w ∷ levels) []) (levels_cut earlier later)

pub frames_cut : (earlier later : List ℕ)
    → frames_of (earlier ++ slot_start ∷ later) ≡ frames_of earlier ++ levels_from later ∷ frames_of later
unfolding frames_of
frames_cut [] later = refl
frames_cut (w ∷ earlier) later = by (eqb w slot_start) (frames_cut earlier later)
  where
    by : (t : Bool)
        → frames_of (earlier ++ slot_start ∷ later) ≡ frames_of earlier ++ levels_from later ∷ frames_of later
        → pick t (levels_from (earlier ++ slot_start ∷ later) ∷ frames_of (earlier ++ slot_start ∷ later))
        (frames_of (earlier ++ slot_start ∷ later))
        ≡ pick t (levels_from earlier ∷ frames_of earlier) (frames_of earlier) ++ levels_from later ∷ frames_of later
    by true e = ap₂ ◌∷◌ (levels_cut earlier later) e
    by false e = e

pub frames_counted : (slots : List ℕ) → length (frames_of slots) ≡ starts_in slots
unfolding frames_of starts_in
frames_counted [] = refl
frames_counted (w ∷ ws) = by (eqb w slot_start) (frames_counted ws)
  where
    by : (t : Bool) → length (frames_of ws) ≡ starts_in ws
        → length (pick t (levels_from ws ∷ frames_of ws) (frames_of ws)) ≡ bit_of t + starts_in ws
    by true e = omega arith
    by false e = omega arith

-- ---- how a reading ends

module _ (room : ℕ) (slots : List ℕ) where
  pub short_list : room < length slots → end_of room slots ≡ Err ShortList
  unfolding end_of
  short_list short = rw (lt-ltb room (length slots) short)

  pub no_slot : (i : ℕ) → length slots ≤ room → 3 < get_or slots i 0 → end_of room slots ≡ Err NoSlot
  unfolding end_of
  no_slot i there over = rw (le-ltb room (length slots) there, stray_found slots i over)

  pub all_slots : length slots ≤ room → ((i : ℕ) → get_or slots i 0 ≤ 3) → end_of room slots ≡ Ok (starts_in slots)
  unfolding end_of
  all_slots there low = rw (le-ltb room (length slots) there, none_stray slots low, frames_counted slots)
