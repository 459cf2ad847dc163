use lib.ListN.{take}
use Rattle.iebus_dump.specs.Line.{bytes_column}
use Rattle.pieces.specs.Pieces.{Put}
use Rattle.iebus_dump.proofs.lines.put_bytes.Given as goal

abbrev pub invariant-loop-byte : goal.invariant-loop-byte
invariant-loop-byte l = Put l.initial.text l.at (bytes_column (take l.byte-index l.bytes)) l.end l.text
