use Prim.Native.Nat.{◌≤◌}
use Rattle.rules.specs.Registers.{flg_byte}
use mathlib.Core.Bool.{Bool, true, false}
use mir.Val.{bool_byte}
use native.Mathlib.Omega.{arith}
use Rattle.registers.proofs.flg_byte.Goals as goal

rt_bit_le : (b : Bool) → bool_byte b ≤ 1
rt_bit_le true = omega arith
rt_bit_le false = omega arith

pub overflow_mul-result : goal.overflow_mul-result
unfolding flg_byte
overflow_mul-result c =
    omega (arith, rt_bit_le c.args.regs.marq)

pub overflow_mul-result-2 : goal.overflow_mul-result-2
unfolding flg_byte
overflow_mul-result-2 c =
    omega (arith, rt_bit_le c.args.regs.strq)

pub overflow_add-result : goal.overflow_add-result
unfolding flg_byte
overflow_add-result c =
    omega (
      arith,
      rt_bit_le c.args.regs.marq,
      rt_bit_le c.args.regs.strq,
    )

pub overflow_mul-result-3 : goal.overflow_mul-result-3
unfolding flg_byte
overflow_mul-result-3 c =
    omega (arith, rt_bit_le c.args.regs.slre)

pub overflow_add-result-2 : goal.overflow_add-result-2
unfolding flg_byte
overflow_add-result-2 c =
    omega (
      arith,
      rt_bit_le c.args.regs.marq,
      rt_bit_le c.args.regs.strq,
      rt_bit_le c.args.regs.slre,
    )
