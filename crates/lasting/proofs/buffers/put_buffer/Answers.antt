use Rattle.std.proofs.Common.{◌∙◌, arith, refl, sym}
use Rattle.circles.specs.Circle.{buffer}
use Rattle.circles.proofs.Places.{list_length}
use Rattle.lasting.proofs.Parts.{buffer_put}
use Rattle.lasting.proofs.buffers.put_buffer.Goals as goal

pub returns : goal.returns
returns g c =
    let b = buffer c.args.buffer.bytes c.args.buffer.span in
    let held = list_length g.row.ROOM b in
    buffer_put _ _ _ _ c.args.to.now _ _ _ c.requires.0 c.unroll.ensures (held ∙ sym c.held-count.ensures.value)
    c.held-count.ensures.most (omega arith) refl (c.fill.ensures.after (λ y e. e))
