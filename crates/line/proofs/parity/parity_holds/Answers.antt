use Rattle.line.specs.Parity.{parity_holds}
use Rattle.line.proofs.parity.Even.{parity-holds}
use Rattle.line.proofs.parity.parity_holds.Goals as goal

pub returns-clause-value : goal.returns-clause-value
unfolding parity_holds
returns-clause-value c =
    simp c.parity.ensures.value

pub returns-clause-even : goal.returns-clause-even
unfolding parity_holds
returns-clause-even c =
    λ width fits. simp c.parity.ensures.value
    (parity-holds c.args.field c.args.p width fits)
