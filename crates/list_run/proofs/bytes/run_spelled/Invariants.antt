use Prim.Native.Nat.{◌-◌}
use lib.ListN.{length}
use Rattle.unit.specs.Unit.{unit_in}
use Rattle.list_run.proofs.Spelled.{SpelledIn}
use Rattle.list_run.proofs.bytes.run_spelled.Given as goal

abbrev pub invariant-loop-at : goal.invariant-loop-at
invariant-loop-at l = SpelledIn (unit_in l.initial.lent l.initial.tbf l.initial.rbf) l.words l.initial.answers l.lent l.tbf l.rbf l.answers l.at

abbrev pub decreases-loop-at : goal.decreases-loop-at
decreases-loop-at l = length l.words - l.at
