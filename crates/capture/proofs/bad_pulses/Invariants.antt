use mathlib.Core.Path.{◌≡◌}
use lib.ListN.{take}
use Rattle.pulses.specs.Symbols.{bad_in}
use Rattle.capture.proofs.bad_pulses.Given as goal

abbrev pub invariant-loop-pulse : goal.invariant-loop-pulse
invariant-loop-pulse l = l.bad ≡ bad_in (take l.pulse-index l.pulses)
