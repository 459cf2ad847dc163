use native.Mathlib.Omega.{arith}
use Rattle.loads.proofs.Windows.{busy_most}
use Rattle.iebus_load.proofs.Inputs.{sized}
use Rattle.iebus_load.proofs.texts.facts_of.Goals as goal

pub overflow_cast-result-2 : goal.overflow_cast-result-2
overflow_cast-result-2 c =
    omega (arith, busy_most c.args.slots.now, c.busy_of.ensures, c.requires.few)

pub invariant_of-result : goal.invariant_of-result
invariant_of-result c = rw c.busy_of.ensures (sized c.requires)
