use lib.ListN.{drop}
use Rattle.line.proofs.Filled.{Filled}
use Rattle.contest.specs.Deciding.{differences}
use Rattle.contest.proofs.put_losses.Given as goal

-- so many slots have been written
abbrev pub invariant-loop-place : goal.invariant-loop-place
invariant-loop-place l =
    Filled (differences l.winner l.contenders) l.initial.lost l.lost
    (differences l.winner (drop l.place l.contenders)) l.place
