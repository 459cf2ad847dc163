use mathlib.Core.Path.{◌≡◌}
use lib.ListN.{drop, take}
use Rattle.pulses.specs.Symbols.{slots_of}
use Rattle.capture.proofs.put_slots.Given as goal

abbrev pub invariant-loop-i : goal.invariant-loop-i
invariant-loop-i l = record {
  front : take l.i l.slots ≡ slots_of l.s (take l.i l.pulses);
  kept : drop l.i l.slots ≡ drop l.i l.initial.slots;
}
