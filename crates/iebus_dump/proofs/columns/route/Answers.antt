use Rattle.iebus_dump.proofs.Digits.{route_list}
use Rattle.iebus_dump.proofs.columns.route.Goals as goal

pub returns : goal.returns
returns c =
    rw route_list cc
