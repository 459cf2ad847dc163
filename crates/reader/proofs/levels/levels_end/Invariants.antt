use Prim.Native.Nat.{◌-◌}
use lib.ListN.{length}
use Rattle.reader.proofs.Slots.{Followed}
use Rattle.reader.proofs.levels.levels_end.Given as goal

abbrev pub invariant-loop-i : goal.invariant-loop-i
invariant-loop-i l = Followed l.slots l.from l.i

abbrev pub decreases-loop-i : goal.decreases-loop-i
decreases-loop-i l = length l.slots - l.i

abbrev pub invariant-loop-place : goal.invariant-loop-place
invariant-loop-place l = Followed l.slots l.from l.place
