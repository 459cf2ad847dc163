-- The premises of what a planner relies on are met: a log of six slots and a window of three, or one that is refused.
use mathlib.Core.List.{List, [], ◌∷◌}
use mathlib.Core.Path.{◌≡◌, refl}
use Prim.Native.Nat.{ℕ, zero, suc}
use native.Mathlib.Omega.{arith}
use Rattle.std.specs.Prelude.{Ok, Err, Some}
use lib.ListN.{get_or}
use Rattle.line.specs.Places.{first_place, placed}
use Rattle.loads.specs.declared.LoadError.TheVariants.{BadWindow, NoSlot}
use Rattle.loads.specs.Figures.{figures_of, largest_of}
use Rattle.loads.specs.Load.{end_of}
use Rattle.loads.specs.Relied.{AllSlots, Right}
use Rattle.loads.proofs.Relied.{relied}

abbrev log : List ℕ
log = 3 ∷ 2 ∷ 0 ∷ 3 ∷ 1 ∷ 3 ∷ []

all_slots : AllSlots log
all_slots zero inside = omega arith
all_slots (suc zero) inside = omega arith
all_slots (suc (suc zero)) inside = omega arith
all_slots (suc (suc (suc zero))) inside = omega arith
all_slots (suc (suc (suc (suc zero)))) inside = omega arith
all_slots (suc (suc (suc (suc (suc zero))))) inside = omega arith
all_slots (suc (suc (suc (suc (suc (suc i)))))) inside = absurd (omega (arith, inside))

-- a list of figures with a place to spare
pub nothing_wrong : Right 3 7 log
nothing_wrong = record {
  some = omega arith;
  fits = omega arith;
  window = record { some = omega arith; small = omega arith };
  words = all_slots;
}

-- the largest is 2, reached after three slots and again after five: the first is told
pub peak_first : end_of 3 7 log ≡ Ok (Some (record { largest = 2; place = 2 }))
unfolding first_place placed largest_of
peak_first = (relied 3).given 7 log nothing_wrong

-- after the fifth slot the window has the third, fourth and fifth
pub window_full : get_or (figures_of 3 log) 4 0 ≡ 2
window_full = (relied 3).full (3 ∷ 2 ∷ []) (0 ∷ 3 ∷ 1 ∷ []) (3 ∷ []) 4 refl refl

-- after the second there are but two
pub window_begun : get_or (figures_of 3 log) 1 0 ≡ 1
window_begun = (relied 3).begun (3 ∷ 2 ∷ []) (0 ∷ 3 ∷ 1 ∷ 3 ∷ []) 1 (omega arith) refl

-- a window that is too wide, and a word that is no slot word
pub too_wide : end_of 4097 7 log ≡ Err BadWindow
too_wide = (relied 4097).bad-window 7 log (omega arith) (λ r. absurd (omega (arith, r.small)))

pub stray_last : end_of 3 2 (3 ∷ 4 ∷ []) ≡ Err NoSlot
stray_last =
    (relied 3).no_slot 2 (3 ∷ 4 ∷ []) (omega arith) nothing_wrong.window
    (λ all. absurd (omega (arith, all 1 (omega arith))))
