use mathlib.Core.Path.{◌≡◌}
use lib.Dec.{ltb}
use lib.ListN.{take}
use Rattle.line.specs.Numbers.{slot_idle}
use Rattle.std.specs.List.{list_any}
use Rattle.logs.proofs.strays.Given as goal

abbrev pub invariant-loop-slot : goal.invariant-loop-slot
invariant-loop-slot l = ltb slot_idle l.digits ≡ list_any (ltb slot_idle) (take l.slot-index l.slots)
