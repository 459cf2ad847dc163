use native.Mathlib.Omega.{arith}
use Rattle.iebus_dump.proofs.Written.{all_lines, begun, one_more}
use Rattle.iebus_dump.proofs.lines.put_lines.Goals as goal

pub loop-place-init : goal.loop-place-init
loop-place-init c =
    begun _ _ c.args.text.now c.args.at

pub loop-place-preserved : goal.loop-place-preserved
loop-place-preserved c =
    rw c.min.ensures
    (one_more c.loop-place.invariant c.loop-place-test.true c.put_line-end.ensures c.used.ensures.0)

pub returns : goal.returns
returns c =
    all_lines c.loop-place.invariant (omega arith)
