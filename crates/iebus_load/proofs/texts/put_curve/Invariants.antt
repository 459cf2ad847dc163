use Rattle.iebus_load.proofs.Curve.{Curve}
use Rattle.iebus_load.proofs.texts.put_curve.Given as goal

abbrev pub invariant-loop-figure : goal.invariant-loop-figure
invariant-loop-figure l = Curve l.initial.text l.at l.figures l.figure-index l.end l.text
