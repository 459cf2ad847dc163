use Rattle.std.proofs.Common.{◌≡◌, ◌+◌, ◌-◌, arith}
use Rattle.list_run.proofs.bytes.put_word.Goals as goal

pub returns : goal.returns
returns c =
    let four : c.args.at + 4 - c.args.at ≡ 4 = omega arith in
    rw (four, c.copy_from_slice.ensures.after, c.to_le_bytes.ensures)
