use mathlib.Core.Path.{sym}
use Rattle.pieces.proofs.Pieces.{named, nothing, then}
use Rattle.iebus_dump.proofs.Written.{bytes_more, no_bytes}
use Rattle.iebus_dump.proofs.lines.put_bytes.Goals as goal

pub loop-byte-init : goal.loop-byte-init
loop-byte-init c =
    named (nothing c.args.text.now c.args.at) (sym no_bytes)

pub loop-byte-preserved : goal.loop-byte-preserved
loop-byte-preserved c =
    named (then c.loop-byte.invariant c.put-end.ensures)
    (rw (c.digit-in-loop-byte.ensures, c.digit.ensures)
    (bytes_more c.args.bytes.now c.loop-byte.byte-index c.loop-byte-test.true))
