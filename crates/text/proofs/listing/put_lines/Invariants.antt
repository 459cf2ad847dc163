use Rattle.std.proofs.Common.{◌+◌, ◌*◌}
use Rattle.text.specs.Writing.{LinesUpTo}
use Rattle.text.proofs.listing.put_lines.Given as goal

abbrev pub invariant-loop-i : goal.invariant-loop-i
invariant-loop-i l = LinesUpTo l.input l.answers l.fn.text l.i (12 + l.i * 18) l.text
