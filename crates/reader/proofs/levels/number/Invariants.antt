use Rattle.reader.proofs.Slots.{Counted}
use Rattle.reader.proofs.levels.number.Given as goal

abbrev pub invariant-loop-level : goal.invariant-loop-level
invariant-loop-level l = Counted l.levels l.n l.level-index
