use Rattle.iebus_dump.proofs.Digits.{length_list}
use Rattle.iebus_dump.proofs.columns.length.Goals as goal

pub returns : goal.returns
returns c =
    rw length_list cc
