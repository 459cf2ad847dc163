use Rattle.line.specs.Parity.{parity_of}
use Rattle.line.proofs.parity.Even.{parity_even}
use Rattle.line.proofs.parity.parity.Goals as goal

pub returns-clause-even : goal.returns-clause-even
unfolding parity_of
returns-clause-even c =
    parity_even c.args.field
