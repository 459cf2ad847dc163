use mathlib.Core.Path.{◌≡◌}
use native.Mathlib.Omega.{arith}
use lib.ListN.{length}
use Rattle.reader.proofs.Slots.{followed_ahead, followed_all, followed_here, followed_none, followed_one}
use Rattle.reader.proofs.levels.levels_end.Goals as goal

pub loop-i-init : goal.loop-i-init
loop-i-init c =
    followed_none _ _ c.requires

pub loop-i-preserved : goal.loop-i-preserved
loop-i-preserved c =
    followed_ahead 8 c.loop-i.invariant (c.eight_levels.ensures c.loop-i-test.true)

pub loop-place-init : goal.loop-place-init
loop-place-init c =
    c.loop-i.invariant

pub returns-then-slots-place-gt-SLOT_HIGH : goal.returns-then-slots-place-gt-SLOT_HIGH
returns-then-slots-place-gt-SLOT_HIGH c =
    followed_here c.loop-place.invariant c.loop-place-test.true c.if-slots-place-gt-SLOT_HIGH.true

pub loop-place-preserved : goal.loop-place-preserved
loop-place-preserved c =
    followed_one c.loop-place.invariant c.loop-place-test.true (omega (arith, c.if-slots-place-gt-SLOT_HIGH.false))

pub returns : goal.returns
returns c =
    let all : c.loop-place.place ≡ length c.args.slots.now = omega arith in
    rw (← all) (followed_all c.loop-place.invariant c.loop-place-test.false)
