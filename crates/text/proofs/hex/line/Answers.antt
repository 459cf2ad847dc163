use Rattle.text.specs.Hex.{hex_of, line_of}
use Rattle.text.proofs.hex.line.Goals as goal

pub returns : goal.returns
unfolding line_of hex_of
returns c =
    rw (c.put_digits.ensures, c.put_digits-2.ensures)
