use Prim.Native.Nat.{◌-◌}
use lib.ListN.{length}
use Rattle.std.specs.Option.{unwrap_or}
use Rattle.reader.proofs.Log.{Sought}
use Rattle.reader.proofs.put_records.Given as goal

abbrev pub invariant-loop-start : goal.invariant-loop-start
invariant-loop-start l = Sought l.long l.slots l.initial.records l.records l.frames l.next l.before l.start

abbrev pub decreases-loop-start : goal.decreases-loop-start
decreases-loop-start l = length l.slots - unwrap_or l.start (length l.slots)
