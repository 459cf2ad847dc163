use Rattle.std.proofs.Common.{refl}
use Rattle.logs.proofs.Called.{called}
use Rattle.logs.specs.Log.{frames_after, number_of}
use Rattle.line_exports.proofs.iebus_read_log.Goals as goal

pub returns-in-Ok-clause-whole : goal.returns-in-Ok-clause-whole
unfolding frames_after number_of
returns-in-Ok-clause-whole c =
    called _ c.in-Ok.ensures.whole refl

pub returns-in-Err-clause-whole : goal.returns-in-Err-clause-whole
unfolding frames_after number_of
returns-in-Err-clause-whole c =
    rw c.number.ensures (called _ c.in-Err.ensures.whole refl)
