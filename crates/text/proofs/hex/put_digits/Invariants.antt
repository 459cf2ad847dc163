use Rattle.std.proofs.Common.{◌≡◌, ℕ, ◌-◌, ◌*◌, ◌/◌, ◌^◌, ◌<◌, get_or, length}
use Rattle.text.specs.Hex.{digit_of}
use Rattle.text.proofs.hex.put_digits.Given as goal

abbrev pub invariant-loop-place : goal.invariant-loop-place
invariant-loop-place l = (length l.digits ≡ 8) × ((k : ℕ) → k < l.place → get_or l.digits k 0 ≡ digit_of (l.word / 2 ^ (28 - 4 * k)))
