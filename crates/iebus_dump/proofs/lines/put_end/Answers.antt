use Rattle.pieces.proofs.Pieces.{named, then}
use Rattle.iebus_dump.proofs.lines.put_end.Goals as goal

pub returns : goal.returns
returns c =
    then (named c.put-at.ensures c.ending.ensures) (named c.put.ensures c.mark.ensures)
