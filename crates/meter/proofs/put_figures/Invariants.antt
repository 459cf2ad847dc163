use Rattle.meter.proofs.Loops.{Written}
use Rattle.meter.proofs.put_figures.Given as goal

abbrev pub invariant-loop-i : goal.invariant-loop-i
invariant-loop-i l = Written l.w l.slots l.initial.figures l.figures l.count l.peak.largest l.peak.place l.i
