use mathlib.Core.Path.{◌∙◌}
use Prim.Native.Nat.{◌/◌, ◌%◌}
use Rattle.pieces.proofs.Pieces.{named, then}
use Rattle.iebus_dump.proofs.Digits.{fields_made}
use Rattle.iebus_dump.specs.Line.{fields_of}
use Rattle.iebus_dump.proofs.lines.put_fields.Goals as goal

pub returns : goal.returns
unfolding fields_of
returns c =
    named
    (then (then (then c.put-at.ensures c.put-at-2.ensures) c.put-at-3.ensures) c.put.ensures)
    (rw (c.route-route.ensures, c.kind.ensures, c.length.ensures)
    (fields_made c.args.place c.given-fields.result (c.args.first / 0x20 % 2) (c.args.second % 0x1000)
    (c.args.second / 0x1000) (c.args.first / 0x40 % 0x10) (c.args.first / 0x400 % 0x200) _ c.name.ensures
    ∙ rw c.given-fields.ensures))
