use Prim.Native.Nat.{◌≤◌}
use Rattle.place.specs.Frame.{shift_of}
use mathlib.Core.Bool.{Bool, true, false}
use mir.Val.{bool_byte}
use native.Mathlib.Omega.{arith}
use Rattle.moves.proofs.shift_in.Goals as goal

rt_bit_le : (b : Bool) → bool_byte b ≤ 1
rt_bit_le true = omega arith
rt_bit_le false = omega arith

pub overflow_add-result : goal.overflow_add-result
unfolding shift_of
overflow_add-result c =
    omega (arith, rt_bit_le c.args.bit)
