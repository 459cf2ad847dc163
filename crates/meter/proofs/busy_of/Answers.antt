use borrow.Author.Rules.{rules}
use native.Mathlib.Omega.{arith}
use Rattle.std.proofs.lemmas.Iterator.{YieldsList-from_map, YieldsList-from_slice}
use Rattle.std.proofs.lemmas.Iterator.Consumers.{YieldsList-at, fits_by_from_yields_list}
use Rattle.loads.proofs.Windows.{busy_most}
use Rattle.loads.specs.Figures.{busy}
use Rattle.meter.proofs.busy_of.Goals as goal

pub sum-requires-clause-fits : goal.sum-requires-clause-fits
sum-requires-clause-fits c =
    let few = busy_most c.args.slots.now in
    fits_by_from_yields_list busy c.args.slots.now c.map.result _
    (YieldsList-from_map _ busy (YieldsList-at c.map.ensures.source (YieldsList-from_slice c.args.slots.now cc))
    c.map.ensures.closure (λ x r q k. search rules))
    (omega (arith, few, c.iter.ensures.bound, c.iter.ensures.len))
