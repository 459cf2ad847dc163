use native.Mathlib.Omega.{arith}
use Rattle.meter.proofs.Loops.{figure_is, written_none, written_one}
use Rattle.meter.proofs.put_figures.Goals as goal

pub loop-i-init : goal.loop-i-init
loop-i-init c = written_none _ _ _

pub loop-i-preserved : goal.loop-i-preserved
loop-i-preserved c =
    written_one c.loop-i.peak c.loop-i.invariant (omega arith)
    (omega (arith, c.loop-i.invariant.figures.long, c.requires.2))
    (figure_is c.loop-i.invariant c.requires.0 (omega arith) c.busy.ensures c.leaving.ensures)
    c.higher-peak.ensures
