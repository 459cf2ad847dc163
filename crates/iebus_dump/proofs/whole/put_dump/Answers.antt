use Rattle.pieces.proofs.Pieces.{then}
use Rattle.iebus_dump.specs.Writing.{text_by}
use Rattle.iebus_dump.proofs.whole.put_dump.Goals as goal

pub returns : goal.returns
unfolding text_by
returns c =
    then (then c.put-at.ensures c.put_lines-at.ensures) c.put.ensures
