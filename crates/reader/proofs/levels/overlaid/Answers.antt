use Rattle.reader.proofs.Slots.{overlaid_one}
use Rattle.reader.proofs.levels.overlaid.Goals as goal

pub loop-word-preserved : goal.loop-word-preserved
loop-word-preserved c =
    overlaid_one c.loop-word.invariant
