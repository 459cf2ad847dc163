use mathlib.Core.Path.{◌∙◌, ap}
use native.Mathlib.Omega.{arith}
use lib.Dec.{ltb}
use lib.Seq.{take_all}
use Rattle.line.specs.Numbers.{slot_idle}
use Rattle.std.specs.List.{list_any}
use Rattle.logs.proofs.Stray.{any_stray, stray_one}
use Rattle.logs.proofs.strays.Goals as goal

pub loop-slot-preserved : goal.loop-slot-preserved
loop-slot-preserved c =
    stray_one _ _ _ c.loop-slot.invariant c.loop-slot-test.true

pub returns : goal.returns
returns c =
    c.loop-slot.invariant
    ∙ ap (list_any (ltb slot_idle)) (take_all c.loop-slot.slot-index c.args.slots.now (omega arith))
    ∙ any_stray c.args.slots.now
