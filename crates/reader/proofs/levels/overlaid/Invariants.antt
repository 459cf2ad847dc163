use Rattle.reader.specs.Reading.{Overlaid}
use Rattle.reader.proofs.levels.overlaid.Given as goal

abbrev pub invariant-loop-word : goal.invariant-loop-word
invariant-loop-word l = Overlaid l.words l.word-index l.digits
