use Rattle.std.proofs.Common.{◌≡◌, ℕ, ◌<◌, get_or}
use Rattle.circles.specs.Circle.{buffer, place_in}
use Rattle.lasting.proofs.buffers.unroll.Given as goal

abbrev pub invariant-loop-k : goal.invariant-loop-k
invariant-loop-k g l =
    (k : ℕ) → k < l.k
    → get_or l.to k 0 ≡ get_or l.buffer.bytes (place_in g.row.ROOM (buffer l.buffer.bytes l.buffer.span) k) 0
