use mathlib.Core.Path.{ap, ◌∙◌}
use lib.ListN.{length}
use Rattle.line.specs.Numbers.{rbf_bytes}
use Rattle.circles.specs.Buffers.{stored_by}
use Rattle.circles.specs.Circle.{Buffer, buffer}
use Rattle.lent.proofs.Changed.{acted_state}
use Rattle.circles.proofs.Turns.{calls_length}
use Rattle.lent.proofs.step.Lent.acted_on.Goals as goal

pub returns : goal.returns
returns c = (
  ap (λ (b : Buffer). length b.bytes) c.rbf_after-stored.ensures
      ∙ calls_length rbf_bytes (stored_by c.args.acted.act) (buffer c.args.rbf.now c.args.self.rbf),
  λ t full. rw c.done.ensures
      (acted_state c.args.self c.args.acted t _ _ _ _ (c.tbf_after-sent.ensures t) c.rbf_after-stored.ensures full),
)
