use Rattle.lasting.proofs.Parts.{buffer_read}
use Rattle.lasting.proofs.buffers.buffer_from.Goals as goal

pub returns : goal.returns
returns g c =
    buffer_read g.row.ROOM c.args.b.now _ c.copy_from_slice.ensures.after c.requires
