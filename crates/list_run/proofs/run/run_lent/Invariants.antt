use Rattle.unit.specs.Unit.{unit_in}
use Rattle.list_run.proofs.Underway.{UnderwayIn}
use Rattle.list_run.proofs.run.run_lent.Given as goal

abbrev pub invariant-loop-i : goal.invariant-loop-i
invariant-loop-i l = UnderwayIn (unit_in l.initial.lent l.initial.tbf l.initial.rbf) l.words l.initial.answers l.lent l.tbf l.rbf l.answers l.i
