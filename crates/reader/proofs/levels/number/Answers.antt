use Rattle.reader.proofs.Slots.{counted_none, counted_one}
use Rattle.reader.proofs.levels.number.Goals as goal

pub loop-level-init : goal.loop-level-init
loop-level-init c =
    counted_none _

pub loop-level-preserved : goal.loop-level-preserved
loop-level-preserved c =
    counted_one c.loop-level.invariant c.requires.1 c.loop-level-test.true
