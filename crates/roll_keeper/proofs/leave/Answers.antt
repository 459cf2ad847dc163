use mathlib.Core.Path.{refl}
use native.Mathlib.Omega.{arith}
use Rattle.std.proofs.lemmas.Result.{err_from_is_err_and}
use Rattle.rolls.proofs.Bytes.{requests_length}
use Rattle.roll_keeper.proofs.Ends.{array_long, leaves_absent, leaves_done, leaves_other, leaves_out}
use Rattle.roll_keeper.proofs.leave.Goals as goal

pub returns-in_err-number : goal.returns-in_err-number
returns-in_err-number c =
    let p = err_from_is_err_and c.from_residual.result c.from_residual.ensures.1 in
    let out = c.in_err-number.ensures in
    rw (p.1, p.2, out.1) (leaves_out _ _ out.0)

pub returns-in_default : goal.returns-in_default
returns-in_default c =
    leaves_other _ _ c.in_ok-number.ensures.0 c.in_default.ensures.cases

pub returns-in_default-place_of : goal.returns-in_default-place_of
returns-in_default-place_of c =
    let whole = c.in-Some.ensures.cases in
    let asked = c.in_ok-number.ensures in
    let absent = rw asked.1 at c.in_default-place_of.ensures in
    rw (← whole.same) (leaves_absent _ _ asked.0 (array_long whole) absent)

pub overflow_sub-roll : goal.overflow_sub-roll
overflow_sub-roll c =
    omega (arith, c.in-Some-place_of.ensures, requests_length c.in-Some.roll.now)

pub returns : goal.returns
returns c =
    let whole = c.in-Some.ensures.cases in
    let asked = c.in_ok-number.ensures in
    let there = rw asked.1 at c.in-Some-place_of.ensures in
    rw (← whole.same) (leaves_done _ _ asked.0 (array_long whole) (omega arith)
    (rw (c.put_without.ensures, there.1, c.count-end.ensures) refl))
