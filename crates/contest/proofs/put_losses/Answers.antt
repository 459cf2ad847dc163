use mathlib.Core.Path.{ap, ◌∙◌}
use native.Mathlib.Omega.{arith}
use Rattle.contest.specs.Deciding.{differs}
use Rattle.contest.proofs.Loops.{loss_written, losses_written}
use Rattle.contest.proofs.put_losses.Goals as goal

pub loop-place-preserved : goal.loop-place-preserved
loop-place-preserved c =
    loss_written _ _ c.loop-place.invariant c.loop-place-test.true (omega arith)
    (c.lost_in.ensures ∙ ap (differs 13 c.args.winner) c.number.ensures)

pub returns : goal.returns
returns c =
    losses_written _ _ c.loop-place.invariant (omega arith)
