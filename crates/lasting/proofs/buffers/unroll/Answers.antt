use Rattle.std.proofs.Common.{◌≡◌, ◌<◌, ◌∙◌, sym, arith, length}
use lib.Seq.{ext_get_or}
use Rattle.circles.specs.Circle.{buffer, held_in, list_of}
use Rattle.circles.proofs.Places.{byte_at, list_length}
use Rattle.lasting.proofs.buffers.unroll.Goals as goal

pub returns : goal.returns
returns g c =
    let room = g.row.ROOM in
    let b = buffer c.args.buffer.now.bytes c.args.buffer.now.span in
    let long : length c.loop-k.to ≡ length (list_of room b) = c.loop-k.auto.to ∙ c.requires ∙ sym (list_length room b) in
    ext_get_or 0 _ _ long
    (λ k h. let held : k < held_in room b = omega (arith, long, list_length room b) in
    c.loop-k.invariant k (omega (arith, long, list_length room b, c.requires, c.loop-k.auto.to)) ∙ sym (byte_at room b k held))
