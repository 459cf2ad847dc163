-- What a planner relies on, from the laws of windows and of the largest figure.
use mathlib.Core.Bool.{Bool, true, false, false≢true}
use mathlib.Core.List.{List, [], ◌∷◌, ◌++◌}
use mathlib.Core.Logic.{⊎_elim}
use mathlib.Core.Path.{◌≡◌, refl, sym, ap, ◌∙◌}
use Prim.Native.Nat.{ℕ, ◌+◌, ◌<◌, ◌≤◌}
use native.Mathlib.Omega.{arith}
use borrow.Author.Tests.{le-ltb, lt-ltb, ltb-false}
use lib.Dec.{ltb}
use lib.ListN.{get_or-eq_default, get_or, length, length-append}
use Rattle.line.proofs.Either.{below_or_not, either, neither, none_of}
use Rattle.line.proofs.Placed.{placed_at, placed_length}
use Rattle.line.specs.Choice.{pick}
use Rattle.line.specs.Numbers.{most_window, slot_idle}
use Rattle.line.specs.Places.{placed}
use Rattle.logs.proofs.Frames.{none_stray, stray_found}
use Rattle.logs.specs.Frames.{stray_in}
use Rattle.std.specs.Prelude.{Option, Some, None, Ok, Err}
use Rattle.loads.specs.declared.LoadError.TheVariants.{ShortList, BadWindow, NoSlot}
use Rattle.loads.specs.declared.Peak.{Peak}
use Rattle.loads.specs.Figures.{bad_window, busy_of, figure_at, figures_of, largest_of, place_of}
use Rattle.loads.specs.Load.{Ending, end_of, peak_of}
use Rattle.loads.specs.Relied.{AllSlots, Peaks, Relied, Right, Window}
use Rattle.loads.proofs.Peaks.{peak_told, peaks}
use Rattle.loads.proofs.Windows.{begun, full, none_idle, one_busy, one_idle}

-- ---- "25, w out of range"

pub window : (w : ℕ) → bad_window w ≡ false → Window w
window w e =
    let ends = neither (ltb w 1) (ltb most_window w) e in
    record { some = ltb-false w 1 ends.0; small = ltb-false most_window w ends.1 }

window_right : (w : ℕ) → Window w → bad_window w ≡ false
window_right w r = none_of (le-ltb w 1 r.some) (le-ltb most_window w r.small)

-- ---- "a word that is no slot word"

all_slots : (slots : List ℕ) → stray_in slots ≡ false → AllSlots slots
all_slots slots e i inside =
    ⊎_elim (λ (h : slot_idle < get_or slots i 0). absurd (false≢true (sym e ∙ stray_found slots i h))) (λ h. h)
    (below_or_not slot_idle (get_or slots i 0))

slots_right : (slots : List ℕ) → AllSlots slots → stray_in slots ≡ false
slots_right slots all =
    none_stray slots
    (λ i. ⊎_elim (all i)
    (λ (h : length slots ≤ i). let past : get_or slots i 0 ≡ 0 = get_or-eq_default slots 0 h in omega (arith, past))
    (below_or_not i (length slots)))

-- ---- the answers

module _ (w room : ℕ) (slots : List ℕ) where
  short_list : room < length slots → end_of w room slots ≡ Err ShortList
  unfolding end_of
  short_list e = rw (lt-ltb room (length slots) e) refl

  bad-window : length slots ≤ room → (Window w → ⊥) → end_of w room slots ≡ Err BadWindow
  unfolding end_of
  bad-window e n =
      ⊎_elim (λ (t : bad_window w ≡ true). rw (le-ltb room (length slots) e, t) refl) (λ f. absurd (n (window w f)))
      (either (bad_window w))

  no_slot : length slots ≤ room → Window w → (AllSlots slots → ⊥) → end_of w room slots ≡ Err NoSlot
  unfolding end_of
  no_slot e r n =
      ⊎_elim (λ (t : stray_in slots ≡ true). rw (le-ltb room (length slots) e, window_right w r, t) refl)
      (λ f. absurd (n (all_slots slots f))) (either (stray_in slots))

  as_many : length (figures_of w slots) ≡ length slots
  as_many = placed_length (figure_at w slots) (length slots)

  given : Right w room slots
      → end_of w room slots
      ≡ Ok (Some (record { largest = largest_of (figures_of w slots); place = place_of (figures_of w slots) }))
  unfolding end_of
  given r =
      rw (le-ltb room (length slots) r.fits, window_right w r.window, slots_right slots r.words)
      (ap Ok (peak_told (figures_of w slots) (omega (arith, as_many, r.some))))

empty : (w room : ℕ) → Window w → end_of w room [] ≡ Ok None
unfolding end_of peak_of placed stray_in
empty w room r = rw (le-ltb room 0 (omega arith), window_right w r) refl

-- of four endings the last is chosen only where no test holds
abbrev chosen : Bool → Bool → Bool → Option Peak → Ending
chosen a b c found = pick a (Err ShortList) (pick b (Err BadWindow) (pick c (Err NoSlot) (Ok found)))

chosen_last : (a b c : Bool) (found : Option Peak) (peak : Peak) → chosen a b c found ≡ Ok (Some peak)
    → (a ≡ false) × (b ≡ false) × (c ≡ false) × (found ≡ Some peak)
chosen_last false false false found peak e = (refl, refl, refl, (cc))
chosen_last true b c found peak e = cc
chosen_last false true c found peak e = cc
chosen_last false false true found peak e = cc

peak_is : (l : List ℕ) (peak : Peak) → peak_of l ≡ Some peak
    → (0 < length l) × (largest_of l ≡ peak.largest) × (place_of l ≡ peak.place)
unfolding peak_of
peak_is [] peak e = cc
peak_is (f ∷ l) peak e = (omega arith, (cc), (cc))

taken : (w room : ℕ) (slots : List ℕ) (peak : Peak) → end_of w room slots ≡ Ok (Some peak)
    → Right w room slots × Peaks (figures_of w slots) peak.largest peak.place
unfolding end_of
taken w room slots peak e =
    let found = peak_of (figures_of w slots) in
    let tests = chosen_last (ltb room (length slots)) (bad_window w) (stray_in slots) found peak e in
    let told = peak_is (figures_of w slots) peak tests.3 in (
      record {
        some = omega (arith, told.0, as_many w room slots);
        fits = ltb-false room (length slots) tests.0;
        window = window w tests.1;
        words = all_slots slots tests.2;
      },
      rw (told.2, told.1) at (peaks (figures_of w slots) told.0),
    )

-- ---- each place

full_at : (w : ℕ) (before window after : List ℕ) (place : ℕ) → length window ≡ w
    → place + 1 ≡ length before + length window
    → get_or (figures_of w (before ++ window ++ after)) place 0 ≡ busy_of window
full_at w before window after place wide at =
    let inside : place < length (before ++ window ++ after) =
    omega (arith, at, length-append (before ++ window) after, length-append before window)
    in
    placed_at (figure_at w (before ++ window ++ after)) _ place inside ∙ full w before window after place wide at

begun_at : (w : ℕ) (window after : List ℕ) (place : ℕ) → length window ≤ w → place + 1 ≡ length window
    → get_or (figures_of w (window ++ after)) place 0 ≡ busy_of window
begun_at w window after place wide at =
    let inside : place < length (window ++ after) = omega (arith, at, length-append window after) in
    placed_at (figure_at w (window ++ after)) _ place inside ∙ begun w window after place wide at

pub relied : (w : ℕ) → Relied w
relied w = record {
  short_list = short_list w;
  bad-window = bad-window w;
  no_slot = no_slot w;
  empty = empty w;
  given = given w;
  taken = taken w;
  as_many = as_many w 0;
  full = full_at w;
  begun = begun_at w;
  none_idle = none_idle;
  one_idle = one_idle;
  one_busy = one_busy;
}
