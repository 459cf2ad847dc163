use Rattle.std.proofs.Common.{ℕ, ◌-◌, ◌*◌, ◌^◌, ◌/◌, arith}
use Rattle.std.proofs.lemmas.List.FromFn.{fill_by_all}
use Rattle.text.specs.Hex.{digit_of, hex_of}
use Rattle.text.proofs.hex.put_digits.Goals as goal

pub returns : goal.returns
unfolding hex_of
returns c =
    fill_by_all (λ (k : ℕ). digit_of (c.args.word / 2 ^ (28 - 4 * k))) _ 8 0 c.loop-place.invariant.0 (λ k h. c.loop-place.invariant.1 k (omega arith))
