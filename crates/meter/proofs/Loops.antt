-- What each loop over the slots keeps from turn to turn.
use mathlib.Core.Logic.{⊎_elim}
use mathlib.Core.List.{List, [], ◌∷◌, ◌++◌}
use mathlib.Core.Path.{◌≡◌, sym}
use Prim.Native.Nat.{ℕ, ◌+◌, ◌-◌, ◌<◌, ◌≤◌}
use native.Mathlib.Numerals.{add-one}
use native.Mathlib.Omega.{arith}
use borrow.Author.Tests.{le-ltb, lt-ltb}
use lib.ListN.{drop, get_or, length, set}
use Rattle.line.proofs.Either.{below_or_not}
use Rattle.line.proofs.Placed.{Placed, all_placed, none_placed, one_placed, placed_length}
use Rattle.line.specs.Places.{placed}
use Rattle.loads.proofs.Peaks.{Most, most_kept, most_new, most_none}
use Rattle.loads.specs.Figures.{busy, figure_at, figures_of}
use Rattle.loads.specs.declared.Peak.{Peak}
use Rattle.meter.specs.Counting.{count_at, higher_of, leaving_at}
use Rattle.meter.proofs.Counting.{count_most, count_none, count_step}

-- ---- put_figures: i slots have their figures

pub record Written (w : ℕ) (slots first now : List ℕ) (count largest place i : ℕ) : Type 0 where
  pub within : i ≤ length slots
  pub counted : count ≡ count_at w slots i
  pub small : count ≤ w
  pub figures : Placed (figure_at w slots) first now i
  pub most : Most (placed (figure_at w slots) i) largest place

pub written_none : (w : ℕ) (slots first : List ℕ) → Written w slots first first 0 0 0 0
unfolding placed
written_none w slots first = record {
  within = omega arith;
  counted = sym (count_none w slots);
  small = omega arith;
  figures = none_placed (figure_at w slots) first;
  most = most_none;
}

-- the figure at a place, from the count before it
module _ {w : ℕ} {slots first now : List ℕ} {count largest place i come left : ℕ}
    (g : Written w slots first now count largest place i) (some : 0 < w) (inside : i < length slots)
    (is : come ≡ busy (get_or slots i 0)) (leaves : left ≡ leaving_at w slots i) where
  figure_sum : figure_at w slots i + left ≡ count + come
  figure_sum = omega (arith, count_step w slots i some inside, g.counted, is, leaves)

  pub figure_is : count + come - left ≡ figure_at w slots i
  figure_is = omega (arith, figure_sum)

-- the largest, with the figure there
most_higher : (m : Peak) {l : List ℕ} (figure place : ℕ) → Most l m.largest m.place → place ≡ length l
    → Most (l ++ figure ∷ []) (higher_of m figure place).largest (higher_of m figure place).place
unfolding higher_of
most_higher m {l} figure place most is =
    ⊎_elim (λ (h : m.largest < figure). rw (lt-ltb m.largest figure h, is) (most_new figure most h))
    (λ (h : figure ≤ m.largest). rw (le-ltb m.largest figure h) (most_kept figure most h))
    (below_or_not m.largest figure)

-- one more stands in the list, and the largest is told with it
pub written_one : {w : ℕ} {slots first now : List ℕ} {count i figure : ℕ} (m : Peak) {next : Peak}
    → Written w slots first now count m.largest m.place i → i < length slots → i < length now
    → figure ≡ figure_at w slots i → next ≡ higher_of m figure i
    → Written w slots first (set now i figure) figure next.largest next.place (i + 1)
unfolding placed
written_one {w} {slots} {first} {now} {count} {i} {figure} m {next} g inside room is higher = record {
  within = omega arith;
  counted = is;
  small = omega (arith, is, count_most w slots (i + 1));
  figures = one_placed figure g.figures room is;
  most = rw (add-one i, ← is, higher)
      (most_higher m figure i g.most (sym (placed_length (figure_at w slots) i)));
}

pub written_all : {w : ℕ} {slots first now : List ℕ} {count largest place i : ℕ}
    → Written w slots first now count largest place i → length slots ≤ i
    → (now ≡ figures_of w slots ++ drop (length slots) first) × Most (figures_of w slots) largest place
written_all {w} {slots} {first} {now} {count} {largest} {place} {i} g end =
    let all : i ≡ length slots = omega (arith, g.within) in
    (rw all at (all_placed g.figures), rw all at g.most)
