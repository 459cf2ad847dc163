-- Parity, shown once for every width: the count of ones of a field's number is that of its slots, so P makes them
-- even.
use mathlib.Core.Bool.{Bool, true, false}
use mathlib.Core.Path.{◌≡◌, refl, sym, ap, ◌∙◌}
use mathlib.Core.List.{List, [], ◌∷◌, ◌++◌}
use Prim.Native.Nat.{ℕ, zero, suc, ◌+◌, ◌/◌, ◌%◌, ◌^◌, ◌<◌}
use native.Mathlib.Nat.{div-eq_of_lt, div-one}
use native.Mathlib.Omega.{arith}
use lib.Count.{ones, ones_in, ones_step}
use lib.Dec.{eqb}
use Rattle.line.specs.Choice.{bit_of}
use Rattle.line.specs.Parity.{parity_of, parity_holds, level_of, levels_of, ones_among, EvenAtEveryWidth}
use Rattle.line.specs.Parity.{HoldsAtEveryWidth}
use Rattle.line.proofs.Either.{eqb_alike}
use Rattle.line.proofs.Levels.{half}

-- the ones of a number are those among its last n slots and those before them
ones_split : (n field : ℕ) → ones_among (levels_of n field) + ones (field / 2 ^ n) ≡ ones field
unfolding ones_among levels_of level_of
ones_split zero field = omega (arith, ap ones (div-one field))
ones_split (suc n) field =
    omega (arith, ones_split n field, ones_step (field / 2 ^ n), ap ones (half n field))

zero_ones : ones 0 ≡ 0
unfolding ones ones_in
zero_ones = refl

ones_levels : (width field : ℕ) → field < 2 ^ width → ones_among (levels_of width field) ≡ ones field
ones_levels width field fits = omega (arith, ones_split width field, ap ones (div-eq_of_lt fits), zero_ones)

ones_snoc : (levels : List ℕ) (p : ℕ) → ones_among (levels ++ p ∷ []) ≡ ones_among levels + p
unfolding ones_among
ones_snoc [] p = omega arith
ones_snoc (level ∷ levels) p = omega (arith, ones_snoc levels p)

-- the ones of a field's slots and of P
with_p : (width field p : ℕ) → field < 2 ^ width → ones_among (levels_of width field ++ p ∷ []) ≡ ones field + p
with_p width field p fits = ones_snoc (levels_of width field) p ∙ ap (λ (k : ℕ). k + p) (ones_levels width field fits)

pub parity_even : (field : ℕ) → EvenAtEveryWidth field (parity_of field)
unfolding parity_of
parity_even field width fits = omega (arith, with_p width field (ones field % 2) fits)

judged : (k : ℕ) (p : Bool) → eqb (k % 2) (bit_of p) ≡ eqb ((k + bit_of p) % 2) 0
judged k true = eqb_alike (k % 2) 1 ((k + 1) % 2) 0 (λ e. omega arith) (λ e. omega arith)
judged k false = eqb_alike (k % 2) 0 ((k + 0) % 2) 0 (λ e. omega arith) (λ e. omega arith)

-- the level read in the P slot is the right one just where it makes the number of ones even
pub parity-holds : (field : ℕ) (p : Bool) → HoldsAtEveryWidth field p (parity_holds field p)
unfolding parity_holds parity_of
parity-holds field p width fits =
    judged (ones field) p ∙ ap (λ (k : ℕ). eqb (k % 2) 0) (sym (with_p width field (bit_of p) fits))
