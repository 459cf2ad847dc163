-- The premises of what a user relies on are met: three pulses, the second in doubt, and widths that they may have had.
use mathlib.Core.List.{List, [], ◌∷◌}
use mathlib.Core.Path.{◌≡◌, refl}
use Prim.Native.Nat.{ℕ, zero, suc}
use native.Mathlib.Omega.{arith}
use borrow.Author.Tests.{eqb-false}
use lib.ListN.{get_or}
use Rattle.line.specs.Numbers.{slot_high, slot_idle, slot_low, slot_start}
use Rattle.pulses.specs.Cases.{bench, word}
use Rattle.pulses.specs.Ranges.{bad_ranges}
use Rattle.pulses.specs.Relied.{LiesIn, Ordered, Sound, TrueWidths, exact_slots}
use Rattle.pulses.specs.Symbols.{symbol_of}
use Rattle.pulses.proofs.Ranges.{sound}
use Rattle.pulses.proofs.Relied.{relied}

abbrev pulses : List ℕ
pulses = word 22 28 ∷ word 18 23 ∷ word 60 80 ∷ []

abbrev widths : List ℕ
widths = 22 ∷ 19 ∷ 80 ∷ []

pub bench_sound : Sound bench
unfolding bad_ranges
bench_sound = sound bench refl

ordered : Ordered pulses
ordered zero inside = omega arith
ordered (suc zero) inside = omega arith
ordered (suc (suc zero)) inside = omega arith
ordered (suc (suc (suc i))) inside = absurd (omega (arith, inside))

true_widths : TrueWidths pulses widths
true_widths zero inside = (omega arith, record { above = omega arith; below = omega arith })
true_widths (suc zero) inside = (omega arith, record { above = omega arith; below = omega arith })
true_widths (suc (suc zero)) inside = (omega arith, record { above = omega arith; below = omega arith })
true_widths (suc (suc (suc i))) inside = absurd (omega (arith, inside))

-- at the first and the last place exact measuring gives what was given
pub exact_one : get_or (exact_slots bench widths) 0 slot_idle ≡ slot_high
unfolding symbol_of
exact_one = (relied bench).exact bench_sound.disjoint pulses widths true_widths 0 (omega arith) (eqb-false 1 3 refl)

pub exact_start : get_or (exact_slots bench widths) 2 slot_idle ≡ slot_start
unfolding symbol_of
exact_start = (relied bench).exact bench_sound.disjoint pulses widths true_widths 2 (omega arith) (eqb-false 2 3 refl)

-- at the second, which is idle, it gives a symbol: there nothing is said
pub exact_elsewhere : get_or (exact_slots bench widths) 1 slot_idle ≡ slot_low
unfolding symbol_of
exact_elsewhere = refl

-- and idle is right there: the interval lies in no range
pub doubtful : LiesIn bench.zero 18 23 → ⊥
unfolding symbol_of
doubtful = (((relied bench).becomes bench_sound.disjoint pulses ordered 1 (omega arith)).idle.0 refl).0
