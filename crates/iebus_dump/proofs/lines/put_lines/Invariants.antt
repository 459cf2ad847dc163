use Rattle.iebus_dump.proofs.Written.{LinesUpTo}
use Rattle.iebus_dump.proofs.lines.put_lines.Given as goal

abbrev pub invariant-loop-place : goal.invariant-loop-place
invariant-loop-place l = LinesUpTo l.slots l.records l.initial.text l.at l.place l.words l.end l.text
