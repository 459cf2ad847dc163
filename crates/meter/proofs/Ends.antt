-- What working the figures out comes to: refused, without a figure, or with the largest.
use mathlib.Core.Bool.{false}
use mathlib.Core.List.{List, ◌++◌}
use mathlib.Core.Path.{◌≡◌, refl, sym, ap, ◌∙◌}
use Prim.Native.Nat.{ℕ, ◌<◌, ◌≤◌}
use native.Mathlib.Omega.{arith}
use borrow.Author.Tests.{le-ltb}
use lib.ListN.{drop, length}
use Rattle.std.specs.Prelude.{Some, None, Ok, Err}
use Rattle.line.proofs.Placed.{placed_length}
use Rattle.line.specs.Places.{placed}
use Rattle.logs.specs.Frames.{stray_in}
use Rattle.loads.proofs.Peaks.{peak_told}
use Rattle.loads.specs.declared.LoadError.{LoadError}
use Rattle.loads.specs.declared.LoadError.TheVariants.{ShortList, BadWindow, NoSlot}
use Rattle.loads.specs.declared.Peak.{Peak}
use Rattle.loads.specs.Figures.{bad_window, figure_at, figures_of, largest_of, place_of}
use Rattle.loads.specs.Load.{Loads, end_of, peak_of, written_of}

pub refused : {w : ℕ} {slots before : List ℕ} (e : LoadError) → Err e ≡ end_of w (length before) slots
    → Loads w slots before (Err e) before
unfolding written_of
refused ShortList ends = record { ends = ends; written = refl }
refused BadWindow ends = record { ends = ends; written = refl }
refused NoSlot ends = record { ends = ends; written = refl }

pub empty : (w : ℕ) (slots before : List ℕ) → bad_window w ≡ false → stray_in slots ≡ false → length slots ≡ 0
    → Loads w slots before (Ok None) before
unfolding end_of written_of peak_of placed
empty w slots before good none e =
    let fits : length slots ≤ length before = omega (arith, e) in
    record {
      ends = rw (le-ltb (length before) (length slots) fits, good, none, e) refl;
      written = refl;
    }

pub figured : {w : ℕ} {slots before after : List ℕ} (peak : Peak) → length slots ≤ length before → bad_window w ≡ false
    → stray_in slots ≡ false → 0 < length slots → after ≡ figures_of w slots ++ drop (length slots) before
    → peak ≡ record { largest = largest_of (figures_of w slots); place = place_of (figures_of w slots) }
    → Loads w slots before (Ok (Some peak)) after
unfolding end_of written_of
figured {w} {slots} {before} peak fits good none some put is =
    let many : length (figures_of w slots) ≡ length slots = placed_length (figure_at w slots) (length slots) in
    let told = peak_told (figures_of w slots) (omega (arith, many, some)) in
    record {
      ends = rw (le-ltb (length before) (length slots) fits, good, none)
          (ap (λ (p : Peak). Ok (Some p)) is ∙ ap Ok (sym told));
      written = put ∙ ap (λ (n : ℕ). figures_of w slots ++ drop n before) (sym many);
    }
