use mathlib.Core.Path.{◌∙◌, ap, subst, sym}
use native.Mathlib.Omega.{arith}
use Prim.Native.Nat.{ℕ, ◌+◌, ◌*◌}
use Rattle.rolls.specs.Kept.{requests_in}
use Rattle.rolls.specs.Roll.{without}
use Rattle.rolls.proofs.Bytes.{requests_length}
use Rattle.roll_keeper.specs.Keeping.{left_at}
use Rattle.roll_keeper.proofs.Loops.{Spelled, all_spelled, cleared_spelled, fewer, filled_behind, left_read, one_spelled}
use Rattle.roll_keeper.proofs.put_without.Goals as goal

pub loop-place-preserved : goal.loop-place-preserved
loop-place-preserved c =
    let read = c.request_left-number.ensures
    ∙ ap (λ (n : ℕ). left_at c.loop-place.roll n c.args.gone c.loop-place.place) c.count-end.ensures
    ∙ left_read c.args.gone c.loop-place.invariant in
    subst (λ l. Spelled (without c.args.gone (requests_in c.args.roll.now)) c.args.roll.now l (c.loop-place.place + 1))
    (sym c.put_request.ensures)
    (one_spelled c.loop-place.invariant (omega (arith, c.loop-place.invariant.long)) read)

pub returns : goal.returns
returns c =
    let many = requests_length c.args.roll.now in
    let long = c.loop-place.invariant.long in
    let few = fewer c.args.gone (requests_in c.args.roll.now) in
    filled_behind (2 * c.count-end.result + 1) c.loop-place.roll c.fill.new.self (omega arith) (omega arith)
    (c.fill.ensures.after (λ y e. e))
    ∙ all_spelled (cleared_spelled c.count-end.result c.loop-place.invariant c.loop-place-test.false (omega arith)
    (omega arith) c.told-roll) c.told-roll
