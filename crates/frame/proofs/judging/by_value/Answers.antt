use Prim.Native.Nat.{ℕ}
use native.Mathlib.Omega.{arith}
use mathlib.Core.Path.{◌≡◌}
use Rattle.place.specs.Slaves.{by_value}
use Rattle.frame.proofs.Values.{of_pair}
use Rattle.frame.proofs.judging.by_value.Goals.{then-control-lt12, else-control-lt12+else-control-lt14+then-control-lt16}
use Rattle.frame.proofs.judging.by_value.Goals as goal

pub returns-in-10-to-11 : goal.returns-in-10-to-11
unfolding by_value
returns-in-10-to-11 c =
    let v = c.args.view in
    let given = c.then_some-in-10-to-11 in
    let P = λ (k : ℕ). given.result ≡ by_value k v.strq v.ready v.locked in
    elim c.in-10-to-11-1.branch [
      | then-control-lt12 w ↦ of_pair P 10 c.args.control given.ensures given.ensures (omega arith) (omega arith)
      | else-control-lt12+else-control-lt14+then-control-lt16 w ↦
          of_pair P 14 c.args.control given.ensures given.ensures (omega arith) (omega arith)
    ]
