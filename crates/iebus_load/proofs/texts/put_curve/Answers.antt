use Rattle.iebus_load.proofs.Curve.{curve_all, curve_begun, curve_more}
use Rattle.iebus_load.proofs.texts.put_curve.Goals as goal

pub loop-figure-init : goal.loop-figure-init
loop-figure-init c = curve_begun _ _ _

pub loop-figure-preserved : goal.loop-figure-preserved
loop-figure-preserved c = curve_more c.loop-figure.invariant c.loop-figure-test.true c.put_form-end.ensures

pub returns : goal.returns
returns c = curve_all c.loop-figure.invariant c.loop-figure-test.false
