use Rattle.rolls.specs.Kept.{requests_in}
use Rattle.rolls.specs.Roll.{without}
use Rattle.roll_keeper.proofs.Loops.{Spelled}
use Rattle.roll_keeper.proofs.put_without.Given as goal

-- so many requests have been written
abbrev pub invariant-loop-place : goal.invariant-loop-place
invariant-loop-place l = Spelled (without l.gone (requests_in l.initial.roll)) l.initial.roll l.roll l.place
