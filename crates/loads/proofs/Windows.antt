-- The slots that are not idle in a window, and what one slot more makes of them.
use mathlib.Core.Bool.{Bool, true, false}
use mathlib.Core.List.{List, [], ◌∷◌, ◌++◌}
use mathlib.Core.Path.{◌≡◌, refl, ap, ◌∙◌}
use Prim.Native.Nat.{ℕ, ◌+◌, ◌-◌, ◌<◌, ◌≤◌}
use native.Mathlib.Omega.{arith}
use borrow.Author.Tests.{ne_eqb}
use lib.Dec.{eqb}
use lib.ListN.{drop, get_or, length, length-append, length-drop, take}
use Rattle.std.proofs.lemmas.List.Sums.{sum_by-append, sum_by-cons}
use lib.Seq.{drop-append-le, drop-append_seam, take-append_seam}
use Rattle.line.specs.Choice.{pick}
use Rattle.line.specs.Numbers.{slot_idle}
use Rattle.line.proofs.Places.{cut}
use Rattle.loads.specs.Figures.{busy, busy_of, figure_at, latest}

-- ---- counting

pub busy_le : (slot : ℕ) → busy slot ≤ 1
busy_le slot = by_test (eqb slot slot_idle) where
  by_test : (idle : Bool) → pick idle 0 1 ≤ 1
  by_test true = omega arith
  by_test false = omega arith

pub none_idle : busy_of [] ≡ 0
none_idle = refl

pub busy_more : (slot : ℕ) (slots : List ℕ) → busy_of (slot ∷ slots) ≡ busy slot + busy_of slots
busy_more slot slots = sum_by-cons busy slot slots

pub one_idle : (slots : List ℕ) → busy_of (slot_idle ∷ slots) ≡ busy_of slots
one_idle slots = omega (arith, busy_more slot_idle slots)

pub one_busy : (slot : ℕ) (slots : List ℕ) → (slot ≡ slot_idle → ⊥) → busy_of (slot ∷ slots) ≡ busy_of slots + 1
one_busy slot slots n =
    let one : busy slot ≡ 1 = rw (ne_eqb slot slot_idle n) refl in
    busy_more slot slots ∙ omega (arith, one)

busy_one : (slot : ℕ) → busy_of (slot ∷ []) ≡ busy slot
busy_one slot = omega (arith, busy_more slot [], none_idle)

pub busy_most : (slots : List ℕ) → busy_of slots ≤ length slots
busy_most [] = omega (arith, none_idle)
busy_most (s ∷ slots) = omega (arith, busy_more s slots, busy_le s, busy_most slots)

-- ---- the window, and one slot more

pub window_most : (w : ℕ) (slots : List ℕ) → busy_of (latest w slots) ≤ w
window_most w slots = omega (arith, busy_most (latest w slots), length-drop (length slots - w) slots)

-- one slot behind some: as long as the window is not full, none leaves it
pub still_open : (w : ℕ) (l : List ℕ) (slot : ℕ) → length l < w
    → busy_of (latest w (l ++ slot ∷ [])) ≡ busy_of (latest w l) + busy slot
still_open w l slot h =
    let long : length (l ++ slot ∷ []) - w ≡ 0 = omega (arith, length-append l (slot ∷ [])) in
    let all : length l - w ≡ 0 = omega arith in
    rw (long, all) (sum_by-append busy l (slot ∷ []) ∙ rw (busy_one slot) refl)

-- then the oldest leaves it
pub now_full : (w : ℕ) (l : List ℕ) (slot : ℕ) → 0 < w → w ≤ length l
    → busy_of (latest w (l ++ slot ∷ [])) + busy (get_or l (length l - w) 0) ≡ busy_of (latest w l) + busy slot
now_full w l slot some h =
    let from : length (l ++ slot ∷ []) - w ≡ length l - w + 1 = omega (arith, length-append l (slot ∷ [])) in
    let inside : length l - w + 1 ≤ length l = omega arith in
    let rest : List ℕ = drop (length l - w + 1) l in
    let new : busy_of (latest w (l ++ slot ∷ [])) ≡ busy_of rest + busy slot =
    ap (λ (n : ℕ). busy_of (drop n (l ++ slot ∷ []))) from
    ∙ ap busy_of (drop-append-le (length l - w + 1) l (slot ∷ []) inside)
    ∙ sum_by-append busy rest (slot ∷ []) ∙ rw (busy_one slot) refl
    in
    let old : busy_of (latest w l) ≡ busy (get_or l (length l - w) 0) + busy_of rest =
    ap busy_of (cut l (length l - w) (omega arith)) ∙ busy_more _ rest
    in
    omega (arith, new, old)

-- ---- a log that is cut where its window begins and ends

-- the slots up to and with a place, whatever comes after them
up_to : (seen after : List ℕ) (place : ℕ) → place + 1 ≡ length seen → take (place + 1) (seen ++ after) ≡ seen
up_to seen after place at = ap (λ (n : ℕ). take n (seen ++ after)) at ∙ take-append_seam seen after

pub full : (w : ℕ) (before window after : List ℕ) (place : ℕ) → length window ≡ w
    → place + 1 ≡ length before + length window → figure_at w (before ++ window ++ after) place ≡ busy_of window
full w before window after place wide at =
    let seen : List ℕ = before ++ window in
    let long : length seen ≡ length before + length window = length-append before window in
    let from : length seen - w ≡ length before = omega (arith, long, wide) in
    ap (λ (l : List ℕ). busy_of (latest w l)) (up_to seen after place (omega (arith, long, at)))
    ∙ ap (λ (n : ℕ). busy_of (drop n seen)) from ∙ ap busy_of (drop-append_seam before window)

pub begun : (w : ℕ) (window after : List ℕ) (place : ℕ) → length window ≤ w → place + 1 ≡ length window
    → figure_at w (window ++ after) place ≡ busy_of window
begun w window after place wide at =
    let from : length window - w ≡ 0 = omega arith in
    ap (λ (l : List ℕ). busy_of (latest w l)) (up_to window after place at)
    ∙ ap (λ (n : ℕ). busy_of (drop n window)) from
