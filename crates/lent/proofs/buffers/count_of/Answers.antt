use mathlib.Core.Path.{sym, ◌∙◌}
use Rattle.circles.specs.Circle.{buffer}
use Rattle.circles.proofs.Places.{list_length}
use Rattle.lent.proofs.buffers.count_of.Goals as goal

pub returns : goal.returns
returns c =
    λ bytes. c.held.ensures.value ∙ sym (list_length c.args.room (buffer bytes c.args.span))
