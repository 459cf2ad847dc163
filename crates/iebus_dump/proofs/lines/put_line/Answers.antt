use Rattle.pieces.proofs.Pieces.{named, then}
use Rattle.iebus_dump.proofs.Written.{line_made, part_cut}
use Rattle.iebus_dump.specs.Writing.{slot_line}
use Rattle.iebus_dump.proofs.lines.put_line.Goals as goal

pub returns : goal.returns
unfolding slot_line
returns c =
    named
    (then (then c.put_fields-at.ensures c.put_bytes-at.ensures)
    c.put_end.ensures)
    (line_made c.args.place c.args.slot c.args.words.now c.if-slot-ne-SLOT_START.false
    c.word-first.ensures c.word.ensures
    (rw (
      c.min-end.ensures,
      c.min-from.ensures,
      c.acked.ensures.0,
      c.ahead.ensures.0,
    ) (part_cut c.args.words.now _ _)))
