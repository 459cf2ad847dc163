-- The code's tables hold what the definitions say, at each of their places: computed.
use mathlib.Core.Bool.{Bool, true, false, ◌&&◌}
use mathlib.Core.Path.{◌≡◌, ap, refl}
use mathlib.Core.List.{List, [], ◌∷◌}
use Prim.Native.Nat.{ℕ, zero, suc, ◌-◌, ◌<◌, ◌≤◌}
use native.Mathlib.Nat.{not-suc-le-zero}
use native.Mathlib.Omega.{arith}
use borrow.Author.Tests.{eqb-false}
use lib.Dec.{eqb}
use lib.ListN.{get_or, get_or-eq_default, length}
use Rattle.line.specs.Cases.{same}
use Rattle.line.proofs.Either.{both, by_value}
use Rattle.logs.proofs.Again.{same_lists}
use Rattle.pieces.specs.Pieces.{bytes_of}
use Rattle.iebus_dump.specs.Line.{control_name, ending_column}
use Rattle.iebus_dump.specs.declared.columns.TheConstants.{CONTROL_NAMES}

-- whether two functions give the same below a number
abbrev same_below : (ℕ → List ℕ) → (ℕ → List ℕ) → ℕ → Bool
same_below f g zero = true
same_below f g (suc n) = same (f n) (g n) && same_below f g n

each_below : (f g : ℕ → List ℕ) (n : ℕ) → same_below f g n ≡ true → (k : ℕ) → k < n → f k ≡ g k
each_below f g zero e k below = absurd (not-suc-le-zero below)
each_below f g (suc n) e k below =
    let parts : (same (f n) (g n) ≡ true) × (same_below f g n ≡ true) = both (same (f n) (g n)) (same_below f g n) e in
    by_value (λ (m : ℕ). f m ≡ g m) k n (same_lists (f n) (g n) parts.0)
    (λ (other : eqb k n ≡ false). each_below f g n parts.1 k (omega (arith, eqb-false k n other)))

pub name_at : (d : List ℕ) (control : ℕ) → control < 16 → get_or CONTROL_NAMES control d ≡ control_name control
unfolding control_name
name_at d control below =
    each_below (λ (k : ℕ). get_or CONTROL_NAMES k d) (λ (k : ℕ). control_name k) 16 refl control below

pub no_ending : (ending : ℕ) → 11 ≤ ending → bytes_of "  " ≡ ending_column ending
unfolding ending_column
no_ending ending over = rw (get_or-eq_default _ _ over) refl

-- how much longer than 30 bytes an ending's text is: nothing
abbrev over_long : ℕ → List ℕ
over_long k = (length (ending_column k) - 30) ∷ []

pub ending_short : (ending : ℕ) → ending < 16 → length (ending_column ending) ≤ 30
unfolding ending_column
ending_short ending below =
    let none : over_long ending ≡ 0 ∷ [] = each_below over_long (λ (k : ℕ). 0 ∷ []) 16 refl ending below in
    let fits : length (ending_column ending) - 30 ≡ 0 = ap (λ (l : List ℕ). get_or l 0 0) none in
    omega arith
