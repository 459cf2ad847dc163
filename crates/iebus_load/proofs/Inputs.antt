-- What is made of an input, from the figures as the code has them.
use mathlib.Core.List.{List, ◌++◌}
use mathlib.Core.Path.{◌≡◌, refl, sym, ap, ◌∙◌}
use Prim.Native.Nat.{ℕ, ◌+◌, ◌-◌, ◌/◌, ◌≤◌, min}
use native.Mathlib.Omega.{arith}
use lib.ListN.{drop, get_or, length, take}
use lib.Seq.{take_at}
use Rattle.line.proofs.Placed.{placed_at, placed_length}
use Rattle.loads.proofs.Relied.{relied}
use Rattle.loads.proofs.Windows.{busy_most, window_most}
use Rattle.std.specs.Prelude.{Some, None, Ok, Err}
use Rattle.loads.specs.declared.Peak.{Peak}
use Rattle.iebus_load.specs.declared.arguments.View.{View}
use Rattle.loads.specs.Figures.{figure_at, figures_of}
use Rattle.loads.specs.Load.{Ending, Loads, end_of, written_of}
use Rattle.words.proofs.Words.{read_count, read_front}
use Rattle.words.specs.Words.{words_of}
use Rattle.iebus_load.specs.Output.{facts_of, loaded_of, most_slots, slots_of, text_bytes, text_of}
use Rattle.iebus_load.specs.Output.{whole_by, whole_of}
use Rattle.iebus_load.specs.Writing.{OfLog, Sized, Told}
use Rattle.iebus_load.proofs.Curve.{text_fits}

-- the slots that a list of so many places takes
pub slots_read : (input list rest : List ℕ) {count room : ℕ} → count ≡ min (length input / 4) room → room ≡ most_slots
    → list ≡ words_of input count ++ rest → take count list ≡ slots_of input
unfolding slots_of
slots_read input list rest {count} counted is front =
    let all : count ≡ count - 0 = omega arith in
    ap (λ (k : ℕ). take k list) all ∙ read_front input list rest counted is front

pub slots_count : (input : List ℕ) → length (slots_of input) ≡ min (length input / 4) most_slots
unfolding slots_of
slots_count input = read_count input most_slots

pub ended_is : (input : List ℕ) {w : ℕ} {slots before after : List ℕ} {ended : Ending} → slots ≡ slots_of input
    → length before ≡ most_slots → Loads w slots before ended after → ended ≡ loaded_of w input
ended_is input {w} {slots} {before} {after} {ended} is room l =
    l.ends ∙ ap (λ (k : List ℕ). end_of w (length before) k) is ∙ ap (λ (n : ℕ). end_of w n (slots_of input)) room

-- ---- the numbers are those of a log that is read

pub sized : {w : ℕ} {slots : List ℕ} {peak : Peak} → OfLog w slots peak
    → Sized (facts_of w slots peak)
sized {w} {slots} {peak} l = record {
  slots_some = l.some;
  slots_small = l.few;
  busy_small = omega (arith, busy_most slots, l.few);
  window_some = l.window_some;
  window_small = l.window_small;
  largest_small = l.largest_small;
  place_small = l.place_small;
}

pub of_log : (w room : ℕ) (slots : List ℕ) {ended : Ending} → length slots ≤ most_slots → ended ≡ end_of w room slots
    → Told w ended slots
of_log w room slots {ended} few ends peak is =
    let taken = (relied w).taken room slots peak (sym ends ∙ is) in
    let right = taken.0 in
    let peaks = taken.1 in
    let many : length (figures_of w slots) ≡ length slots = placed_length (figure_at w slots) (length slots) in
    let there : get_or (figures_of w slots) peak.place 0 ≡ figure_at w slots peak.place =
    placed_at (figure_at w slots) (length slots) peak.place (omega (arith, peaks.within, many))
    in
    record {
      some = right.some;
      few = few;
      window_some = right.window.some;
      window_small = omega (arith, right.window.small);
      largest_small = omega (arith, peaks.reached, there, window_most w (take (peak.place + 1) slots));
      place_small = omega (arith, peaks.within, many, few);
    }

-- ---- all that is written

-- the figures are those that stand in the list
figures_there : (w : ℕ) (slots rest after : List ℕ) {count : ℕ} → count ≡ length slots
    → after ≡ figures_of w slots ++ rest → take count after ≡ figures_of w slots
figures_there w slots rest after {count} counted is =
    let many : length (figures_of w slots) ≡ length slots = placed_length (figure_at w slots) (length slots) in
    ap (take count) is ∙ take_at (figures_of w slots) rest count (omega (arith, many, counted))

written_by : (view : View) (w : ℕ) (r : Ending) (slots rest after : List ℕ) {count : ℕ} → count ≡ length slots
    → after ≡ written_of w r slots ++ rest
    → whole_by view w r slots (take count after) ≡ whole_by view w r slots (figures_of w slots)
unfolding whole_by written_of
written_by view w (Ok (Some peak)) slots rest after counted is =
    ap (text_of view (facts_of w slots peak)) (figures_there w slots rest after counted is)
written_by view w (Ok None) slots rest after counted is = refl
written_by view w (Err e) slots rest after counted is = refl

pub whole_made : (view : View) (input : List ℕ) {w : ℕ} {slots before after : List ℕ} {ended : Ending} {count : ℕ}
    → slots ≡ slots_of input → length before ≡ most_slots → Loads w slots before ended after
    → count ≡ length (slots_of input)
    → whole_by view w ended slots (take count after) ≡ whole_of view w input
whole_made view input {w} {slots} {before} {after} {ended} {count} is room l counted =
    let rest : List ℕ = drop (length (written_of w ended slots)) before in
    written_by view w ended slots rest after (counted ∙ ap length (sym is)) l.written
    ∙ ap (λ (k : List ℕ). whole_by view w ended k (figures_of w k)) is
    ∙ ap (λ (r : Ending). whole_by view w r (slots_of input) (figures_of w (slots_of input))) (ended_is input is room l)

fits_in : (view : View) (w : ℕ) (r : Ending) (slots : List ℕ) → length slots ≤ most_slots
    → length (whole_by view w r slots (figures_of w slots)) ≤ text_bytes
unfolding whole_by
fits_in view w (Ok (Some peak)) slots few =
    text_fits view (facts_of w slots peak) (figures_of w slots)
    (omega (arith, placed_length (figure_at w slots) (length slots), few))
fits_in view w (Ok None) slots few = omega arith
fits_in view w (Err e) slots few = omega arith

pub whole_fits : (view : View) (w : ℕ) (input : List ℕ) → length (whole_of view w input) ≤ text_bytes
whole_fits view w input = fits_in view w (loaded_of w input) (slots_of input) (omega (arith, slots_count input))
