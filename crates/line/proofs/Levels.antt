-- Levels of a field: what one slot says of a number, and the number that the slots before it have said.
use mathlib.Core.Bool.{Bool, true, false}
use mathlib.Core.Path.{◌≡◌, sym, ap, ◌∙◌}
use Prim.Native.Nat.{ℕ, suc, ◌+◌, ◌*◌, ◌/◌, ◌^◌, ◌≤◌}
use native.Mathlib.Nat.{div-div-eq-div-mul, div-mul-le_self, le-div_iff_mul-le, le_trans, pow-suc}
use native.Mathlib.Omega.{arith}
use lib.Pow.{pow_pos}
use Rattle.line.specs.Choice.{bit_of}
use Rattle.line.specs.Parity.{level_of}

-- the slots up to one with n after it are those before it and its own level
pub half : (n x : ℕ) → x / 2 ^ n / 2 ≡ x / 2 ^ suc n
half n x = div-div-eq-div-mul x (2 ^ n) 2 ∙ ap (λ (k : ℕ). x / k) (sym (pow-suc 2 n))

pub level_split : (n x : ℕ) → x / 2 ^ n ≡ 2 * (x / 2 ^ suc n) + level_of n x
unfolding level_of
level_split n x = omega (arith, half n x)

pub bit_le : (b : Bool) → bit_of b ≤ 1
bit_le true = omega arith
bit_le false = omega arith

pub level_le : (n x : ℕ) → level_of n x ≤ 1
unfolding level_of
level_le n x = omega arith

pub div_le_div : (n : ℕ) {w x : ℕ} → w ≤ x → w / 2 ^ n ≤ x / 2 ^ n
div_le_div n {w} {x} h = (le-div_iff_mul-le (pow_pos n)).1 (le_trans (div-mul-le_self w (2 ^ n)) h)
